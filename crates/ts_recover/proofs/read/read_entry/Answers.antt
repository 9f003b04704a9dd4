use Rattle.std.proofs.Common.{◌≡◌, ◌+◌, ◌-◌, ◌≤◌, length, take, drop, ap, sym, ◌∙◌, arith, length-drop}
use Rattle.std.proofs.lemmas.Bool.{and_parts, leb-true}
use Rattle.std.proofs.lemmas.List.{length-take-le}
use Rattle.ts_page.specs.Pages.{bytes_at}
use Rattle.ts_recover.proofs.EntryLemmas.{zero_length, too_short, found_not_allowed, found_image, found_freed, found_neither}
use Rattle.ts_recover.proofs.read.read_entry.Goals as goal

pub returns-then-left-clause-ok : goal.returns-then-left-clause-ok
returns-then-left-clause-ok g c told =
    let held = (g.V.Volume.device c.args.vol.now).held in
    let len = length-take-le c.args.left (drop c.args.at held) (omega (arith, length-drop c.args.at held, (g.met.V.Volume.lawful c.args.vol.now).size told, c.requires)) in
    sym (too_short c.args.pages c.args.least (bytes_at c.args.at c.args.left held) (omega (arith, len)))

pub returns-then-not-is_allowed-clause-ok : goal.returns-then-not-is_allowed-clause-ok
returns-then-not-is_allowed-clause-ok g c told =
    let held = (g.V.Volume.device c.args.vol.now).held in
    let fits : c.args.at + c.args.left ≤ length held = omega (arith, (g.met.V.Volume.lawful c.args.vol.now).size told, c.requires) in
    found_not_allowed held c.args.at c.args.left fits (omega arith) c.read_at.new.into c.read_at.auto.into (c.in_ok-read_at.ensures.read told) c.args.pages c.args.least c.number_of-no.result c.number_of-no.ensures
    (sym c.is_allowed.ensures ∙ c.if-not-is_allowed.true)

pub returns-then-is_image-clause-ok : goal.returns-then-is_image-clause-ok
returns-then-is_image-clause-ok g c told =
    let held = (g.V.Volume.device c.args.vol.now).held in
    let fits : c.args.at + c.args.left ≤ length held = omega (arith, (g.met.V.Volume.lawful c.args.vol.now).size told, c.requires) in
    let image = sym c.is_image.ensures ∙ c.if-is_image.true in
    let more : 4096 ≤ c.args.left - 5 = leb-true 4096 (c.args.left - 5) (and_parts _ _ image).1 in
    let size : length c.read_at-then-is_image.new.into ≡ 4096 = c.read_at-then-is_image.auto.into ∙ ap length c.zero-page.ensures ∙ zero_length in
    found_image held c.args.at c.args.left fits (omega arith) c.read_at.new.into c.read_at.auto.into (c.in_ok-read_at.ensures.read told) c.args.pages c.args.least c.number_of-no.result c.number_of-no.ensures
    (sym c.is_allowed.ensures ∙ c.if-not-is_allowed.false) image (omega (arith, more)) c.read_at-then-is_image.new.into
    (c.in_ok-read_at-2.ensures.read told ∙ (λ i. take (size i) (drop (c.args.at + 5) (c.read_at.ensures.held i))))

pub returns-then-is_freed-clause-ok : goal.returns-then-is_freed-clause-ok
returns-then-is_freed-clause-ok g c told =
    let held = (g.V.Volume.device c.args.vol.now).held in
    let fits : c.args.at + c.args.left ≤ length held = omega (arith, (g.met.V.Volume.lawful c.args.vol.now).size told, c.requires) in
    found_freed held c.args.at c.args.left fits (omega arith) c.read_at.new.into c.read_at.auto.into (c.in_ok-read_at.ensures.read told) c.args.pages c.args.least c.number_of-no.result c.number_of-no.ensures
    (sym c.is_allowed.ensures ∙ c.if-not-is_allowed.false) (sym c.is_image.ensures ∙ c.if-is_image.false) (sym c.is_freed.ensures ∙ c.if-is_freed.true)

pub returns-clause-ok : goal.returns-clause-ok
returns-clause-ok g c told =
    let held = (g.V.Volume.device c.args.vol.now).held in
    let fits : c.args.at + c.args.left ≤ length held = omega (arith, (g.met.V.Volume.lawful c.args.vol.now).size told, c.requires) in
    found_neither held c.args.at c.args.left fits (omega arith) c.read_at.new.into c.read_at.auto.into (c.in_ok-read_at.ensures.read told) c.args.pages c.args.least c.number_of-no.result c.number_of-no.ensures
    (sym c.is_allowed.ensures ∙ c.if-not-is_allowed.false) (sym c.is_image.ensures ∙ c.if-is_image.false) (sym c.is_freed.ensures ∙ c.if-is_freed.false)
