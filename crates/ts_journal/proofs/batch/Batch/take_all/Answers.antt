use Rattle.std.proofs.Common.{◌≡◌, ◌<◌, ℕ, Option, None, length, take, get_or, ap, sym, subst, ◌∙◌, arith}
use Rattle.std.specs.Option.{unwrap_or}
use Rattle.ts_journal.specs.declared.batch.Change.{Change}
use Rattle.ts_journal.specs.declared.batch.Change.TheVariants.{Free}
use Rattle.ts_journal.specs.Journal.{Entry, Entries, change_of, put, put_all}
use Rattle.ts_journal.specs.Stored.{Listed, Sets, change_in}
use Rattle.ts_journal.proofs.BatchLemmas.{no_entry, put_all-more}
use Rattle.ts_journal.proofs.JoinedLemmas.{joined_length, left_here, left_more}
use Rattle.ts_journal.proofs.batch.Batch.take_all.Goals as goal

pub loop-place-preserved : goal.loop-place-preserved
loop-place-preserved c =
    let inv = c.loop-place.invariant in
    let old = c.args.self.now.entries in
    let all = c.args.other.now.entries in
    let images = c.loop-place.other-inside.images.entries in
    let numbers = c.loop-place.other-inside.numbers.entries in
    let i = c.loop-place.place in
    let no = c.at-no.result in
    let inside : i < length all = omega (arith, c.len-place-end.ensures, c.loop-place-test.true) in
    let within : i < length numbers =
    omega (arith, inside, ap (λ (b : Entries). length b.entries) c.other.view_is, joined_length c.other.inside.images.entries c.other.inside.numbers.entries, ap (λ (n : Listed). length n.entries) inv.numbers) in
    let at = c.at-no.ensures.is no_entry in
    let sets = subst (λ (n : ℕ). Sets n None images c.remove-image.new.self.entries) (ap (λ (e : Entry). e.0) at) c.remove-image.ensures.rest in
    let entry : get_or all i no_entry ≡ (no, change_in c.remove-image.result) =
    left_here i images numbers all no_entry no_entry inv.left within ∙ ap (λ (e : Entry). (e.0, unwrap_or (change_of e.0 images) e.1)) (sym at)
    ∙ ap (λ (o : Option Change). (no, unwrap_or o Free)) (sym c.remove-image.ensures.value) in
    record {
      numbers = inv.numbers;
      left = left_more i images numbers all no_entry no_entry inv.left within c.remove-image.new.self.entries c.at-no.ensures.batch.rising sets;
      taken = c.in-Ok.ensures.ok ∙ ap (put no (change_in c.remove-image.result)) inv.taken ∙ ap (λ (e : Entry). put e.0 e.1 (put_all old (take i all))) (sym entry) ∙ sym (put_all-more old all i no_entry inside);
      spare = omega (arith, inv.spare, c.in-Ok.ensures.spare);
      image_spare = omega (arith, inv.image_spare, c.in-Ok.ensures.image_spare);
      kept_images = omega (arith, inv.kept_images, c.remove-image.ensures.spare);
    }
