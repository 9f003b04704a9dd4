use Rattle.std.proofs.Common.{◌≤◌, ◌≡◌, ◌+◌, ◌++◌, ◌∙◌, refl, sym, ap, take, drop, length, List, ℕ, arith, length-drop, take-append-drop, rules}
use Rattle.std.proofs.lemmas.List.{take_at, drop_all, drop-drop, length-take-le}
use Rattle.ts_disk.proofs.memory_source.MemorySourceSource.pull.Goals as goal

-- the bytes that are taken, and those that are left
parts : (bytes rest : List ℕ) (at n : ℕ) → at + n ≤ length bytes → drop at bytes ≡ take n (take n (drop at bytes) ++ rest) ++ drop (at + n) bytes
parts bytes rest at n le =
    sym (take-append-drop n (drop at bytes)) ∙ (λ i. sym (take_at (take n (drop at bytes)) rest n (length-take-le n (drop at bytes) (omega (arith, length-drop at bytes)))) i ++ drop-drop n at bytes i)

pub returns-clause-pulled : goal.returns-clause-pulled
returns-clause-pulled c =
    let bytes = c.args.self.now.bytes.items in
    let at = c.args.self.now.at in
    let n = c.min-count.result in
    let into = c.args.into.now in
    let within : at + n ≤ length bytes = omega arith in
    let into_is : c.move_out.new.into ≡ take n (drop at bytes) ++ drop n into = c.move_out.ensures ∙ ap (λ (b : List ℕ). take n (drop at b) ++ drop n into) c.deref-2.ensures.value in
    record {
      pulls = omega arith;
      fits = omega arith;
      moved = λ told. parts bytes (drop n into) at n within ∙ ap (λ (l : List ℕ). take n l ++ drop (at + n) bytes) (sym into_is);
      end = λ told none. drop_all at bytes (omega arith);
      stays = tt;
      pull_faults = omega arith;
      cause = λ err. absurd (cc);
      no_fault = λ ok. refl;
      ended = search rules;
      past_end = search rules;
    }
