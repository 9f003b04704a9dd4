-- A text that is taken piece by piece, and how that ends.
use Rattle.std.proofs.Common.{◌≡◌, inl, inr, ℕ, ◌+◌, ◌<◌, ◌≤◌, Bool, IsTrue, List, [], ◌++◌, length, take, Ok, Err, refl, sym, ◌∙◌, ap, arith, length-append}
use Rattle.std.proofs.lemmas.List.{append-nil, length-take-le}
use Rattle.ts_disk.specs.Device.{Input, Pulled}
use Rattle.ts_carriers.proofs.CallerLemmas.{rose_on}
use Rattle.ts_opening.proofs.CallerLemmas.{IsOnce, end_told, nothing_left, once_more, once_now, once_pulled, pulls_on, taken_on}
use Rattle.ts_session_source.specs.declared.fault.TextFault.TheVariants.{Pull, TooLong, Memory}
use Rattle.ts_session_source.specs.Text.{TakesText}

-- so much of a source was taken, with no fault
pub record HasTaken (told : Bool) (text : List ℕ) (i x : Input) : Type 0 where
  pub within : length text ≤ 1048576
  pub faults : x.pull_faults ≡ i.pull_faults
  pub pulls : x.pulls ≤ i.pulls + length text
  pub live : IsOnce i x
  pub cut : IsTrue told → i.left ≡ text ++ x.left

pub none_yet : (told : Bool) (i : Input) → HasTaken told [] i i
none_yet told i = record { within = omega arith; faults = refl; pulls = omega arith; live = once_now i; cut = λ s. refl }

-- as many pulls as bytes, and one more
few_pulls : (i j : Input) (text : List ℕ) → j.pulls ≤ i.pulls + length text + 1 → i.left ≡ text ++ j.left → j.pulls + length j.left ≤ i.pulls + length i.left + 1
few_pulls i j text most cut = omega (arith, most, ap length cut, length-append text j.left)

module _ {E : Type 0} (told : Bool) (text : List ℕ) (i x j : Input) (so_far : HasTaken told text i x) (buffer : List ℕ) where
  -- a pull failed
  pub stopped : (error : E) → Pulled told buffer (Err error) x j → TakesText told (Err Pull) i j
  stopped error pulled =
      let one : j.pulls ≤ x.pulls + 1 = pulls_on x.pulls j.pulls pulled.pulls in
      let most : j.pulls ≤ i.pulls + length text + 1 = let before = so_far.pulls in omega (arith, before, one) in
      let cut : IsTrue told → i.left ≡ text ++ j.left = λ s. so_far.cut s ∙ ap (λ (l : List ℕ). text ++ l) (sym pulled.stays) in
      record {
        short = tt;
        whole = tt;
        ended = tt;
        pull = λ is. rose_on i.pull_faults x.pull_faults j.pull_faults (let same = so_far.faults in omega (arith, same)) (pulled.cause refl);
        no_pull_fault = λ no. absurd (no refl);
        pull_faults = (let same = so_far.faults in let more = pulled.pull_faults in omega (arith, same, more));
        too_long = λ is. absurd (cc);
        enough = λ s. inr (record { taken = text; cut = cut s; short = so_far.within });
        pulls = λ s. few_pulls i j text most (cut s);
        pulls_most = (let within = so_far.within in omega (arith, most, within));
        once = once_pulled i x j so_far.live pulled.past_end;
      }

  module _ (n : ℕ) (pulled : Pulled {E = E} told buffer (Ok n) x j) where
    -- it was the end
    pub ended : n ≡ 0 → TakesText told (Ok text) i j
    ended zero =
        let one : j.pulls ≤ x.pulls + 1 = pulls_on x.pulls j.pulls pulled.pulls in
        let most : j.pulls ≤ i.pulls + length text + 1 = let before = so_far.pulls in omega (arith, before, one) in
        let none : IsTrue told → j.left ≡ [] = λ s. nothing_left x.left j.left buffer n zero (pulled.end s zero) (pulled.moved s) in
        let whole : IsTrue told → i.left ≡ text = λ s. so_far.cut s ∙ ap (λ (l : List ℕ). text ++ l) (pulled.end s zero) ∙ append-nil text in
        let cut : IsTrue told → i.left ≡ text ++ j.left = λ s. so_far.cut s ∙ ap (λ (l : List ℕ). text ++ l) (pulled.end s zero ∙ sym (none s)) in
        record {
          short = so_far.within;
          whole = λ s. (whole s, none s);
          ended = end_told x j n zero pulled.ended;
          pull = λ is. absurd (cc);
          no_pull_fault = λ no. pulled.no_fault refl ∙ so_far.faults;
          pull_faults = (let same = so_far.faults in let more = pulled.pull_faults in omega (arith, same, more));
          too_long = λ is. absurd (cc);
          enough = λ s. inr (record { taken = text; cut = cut s; short = so_far.within });
          pulls = λ s. few_pulls i j text most (cut s);
          pulls_most = (let within = so_far.within in omega (arith, most, within));
          once = once_pulled i x j so_far.live pulled.past_end;
        }

    -- it gave a piece
    module _ (some : 0 < n) where
      abbrev piece : List ℕ
      piece = take n buffer

      size : length piece ≡ n
      size = length-take-le n buffer pulled.fits

      cut_more : IsTrue told → i.left ≡ (text ++ piece) ++ j.left
      cut_more s = taken_on i.left x.left j.left text piece (so_far.cut s) (pulled.moved s)

      count : length (text ++ piece) ≡ length text + n
      count = length-append text piece ∙ (λ k. length text + size k)

      most_more : j.pulls ≤ i.pulls + length text + 1
      most_more = let one = pulls_on x.pulls j.pulls pulled.pulls in let before = so_far.pulls in omega (arith, before, one)

      -- past the limit
      pub overlong : length text ≡ 1048576 → TakesText told (Err TooLong) i j
      overlong full = record {
        short = tt;
        whole = tt;
        ended = tt;
        pull = λ is. absurd (cc);
        no_pull_fault = λ no. pulled.no_fault refl ∙ so_far.faults;
        pull_faults = (let same = so_far.faults in let more = pulled.pull_faults in omega (arith, same, more));
        too_long = λ is s. record { taken = text ++ piece; cut = cut_more s; long = (let size = count in omega (arith, size, full, some)) };
        enough = λ s. inl refl;
        pulls = λ s. few_pulls i j (text ++ piece) (let size = count in let most = most_more in omega (arith, size, most)) (cut_more s);
        pulls_most = (let most = most_more in omega (arith, most, full));
        once = once_pulled i x j so_far.live pulled.past_end;
      }

      -- within the limit
      module _ (within : length text + n ≤ 1048576) where
        pub piece_more : HasTaken told (text ++ piece) i j
        piece_more = record {
          within = (let size = count in omega (arith, size, within));
          faults = pulled.no_fault refl ∙ so_far.faults;
          pulls = (let size = count in let most = most_more in omega (arith, size, most, some));
          live = once_more i x j n so_far.live pulled.ended pulled.past_end some;
          cut = cut_more;
        }

        -- but there was no memory for it
        pub wanting : (error : _) → TakesText told (Err (Memory error)) i j
        wanting error = record {
          short = tt;
          whole = tt;
          ended = tt;
          pull = λ is. absurd (cc);
          no_pull_fault = λ no. pulled.no_fault refl ∙ so_far.faults;
          pull_faults = (let same = so_far.faults in let more = pulled.pull_faults in omega (arith, same, more));
          too_long = λ is. absurd (cc);
          enough = λ s. inr (record { taken = text ++ piece; cut = cut_more s; short = (let size = count in omega (arith, size, within)) });
          pulls = λ s. few_pulls i j (text ++ piece) (let size = count in let most = most_more in omega (arith, size, most)) (cut_more s);
          pulls_most = (let most = most_more in let room = within in omega (arith, most, room));
          once = once_pulled i x j so_far.live pulled.past_end;
        }
