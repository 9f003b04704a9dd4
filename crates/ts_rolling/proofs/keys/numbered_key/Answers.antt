use Rattle.std.proofs.Common.{◌≡◌, ◌++◌, sym, ap, subst, ◌∙◌, append_assoc, IsTrue}
use Rattle.std.proofs.lemmas.Result.{IfOk-weaker}
use Rattle.ts_base.specs.Name.{is_key}
use Rattle.ts_rolling.specs.Sets.{numbered_key, digits_of}
use Rattle.ts_rolling.proofs.KeyLemmas.{is_key-numbered}
use Rattle.ts_rolling.proofs.keys.numbered_key.Goals as goal

pub key_of-requires : goal.key_of-requires
key_of-requires c =
    let set = c.args.set.now in
    let sign = c.args.sign.now in
    let digits = digits_of c.args.width c.args.number in
    let text : c.as_slice-bytes.result.now ≡ numbered_key sign c.args.width set c.args.number =
    c.as_slice-bytes.ensures.value ∙ c.push_digits.ensures
    ∙ ap (λ t. t ++ digits) (c.push_all-2.ensures.items ∙ ap (λ t. t ++ sign) (c.push_all.ensures.items ∙ (λ i. c.new-text.ensures i ++ c.as_slice-set.ensures.value i)))
    ∙ append_assoc set sign digits in
    subst (λ t. IsTrue (is_key t)) (sym text) (is_key-numbered set sign c.args.width c.args.number c.as_slice-set.ensures.form c.requires.text c.requires.fits c.requires.few)

pub returns : goal.returns
returns c =
    let set = c.args.set.now in
    let sign = c.args.sign.now in
    let digits = digits_of c.args.width c.args.number in
    let text : c.as_slice-bytes.result.now ≡ numbered_key sign c.args.width set c.args.number =
    c.as_slice-bytes.ensures.value ∙ c.push_digits.ensures
    ∙ ap (λ t. t ++ digits) (c.push_all-2.ensures.items ∙ ap (λ t. t ++ sign) (c.push_all.ensures.items ∙ (λ i. c.new-text.ensures i ++ c.as_slice-set.ensures.value i)))
    ∙ append_assoc set sign digits in
    IfOk-weaker c.key_of.result _ _ (λ key is. is ∙ text) c.key_of.ensures
