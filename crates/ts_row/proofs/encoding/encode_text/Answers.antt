-- The text and its zeros stand behind the first two bytes.
use Rattle.std.proofs.Common.{◌≡◌, ◌++◌, ◌-◌, length, slice_set, replicate, length-set, length-append, length-take, length-drop, arith, ◌∙◌, ap}
use Rattle.std.proofs.lemmas.List.{length-replicate}
use Rattle.ts_row.proofs.EncodingLemmas.{put_behind_two}
use Rattle.ts_row.proofs.encoding.encode_text.Goals as goal

pub returns : goal.returns
returns c =
    let size : length (slice_set (slice_set c.args.cell.now 0 1) 1 (length c.args.text.now)) ≡ length c.args.cell.now =
    length-set (slice_set c.args.cell.now 0 1) 1 (length c.args.text.now) ∙ length-set c.args.cell.now 0 1 in
    let padded : c.pad.new.into ≡ c.args.text.now ++ replicate (length c.args.cell.now - 2 - length c.args.text.now) 0 =
    c.pad.ensures ∙ ap (λ n. c.args.text.now ++ replicate (n - length c.args.text.now) 0) (simp (length-take, length-drop) (omega arith)) in
    rw padded
    (put_behind_two 1 (length c.args.text.now) (length (slice_set (slice_set c.args.cell.now 0 1) 1 (length c.args.text.now))) c.args.cell.now
    (c.args.text.now ++ replicate (length c.args.cell.now - 2 - length c.args.text.now) 0)
    (simp (length-append, length-replicate) (omega arith)) size)
