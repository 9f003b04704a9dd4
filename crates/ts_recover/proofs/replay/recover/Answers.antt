use Rattle.std.proofs.Common.{◌∙◌, ◌-◌, ◌/◌, ℕ, inr, refl, subst, sym, arith}
use Rattle.ts_journal.specs.Journal.{IsVolumeSize, StaysUnread}
use Rattle.ts_recover.specs.Reading.{JournalRead}
use Rattle.ts_journal.proofs.CallerLemmas.{volume_long, stays_unread, journal_malformed, journal_is_none}
use Rattle.std.proofs.lemmas.Option.{none-some}
use Rattle.ts_page.specs.Pages.{first_element_page}
use Rattle.ts_recover.proofs.replay.recover.Goals as goal

pub read_journal-requires-clause-size : goal.read_journal-requires-clause-size
read_journal-requires-clause-size g c =
    let size = (g.V.Volume.device c.args.vol.now).size in
    let is = c.len-bytes.ensures in
    (size / 4096 - first_element_page, omega arith, omega arith, omega arith)

pub returns-in_default-clause-cause : goal.returns-in_default-clause-cause
returns-in_default-clause-cause g c =
    let v = g.V.Volume.device c.args.vol.now in
    let is = c.len-bytes.ensures in
    let size : IsVolumeSize v.size = (v.size / 4096 - first_element_page, omega arith, omega arith, omega arith) in
    inr (refl, size, λ told. subst (λ o. JournalRead o v.held c.read_journal.new.overlay.entries) c.in_default.is (c.in_ok-length.ensures.ok told))

pub returns-clause-size : goal.returns-clause-size
returns-clause-size g c =
    let size = (g.V.Volume.device c.args.vol.now).size in
    let is = c.len-bytes.ensures in
    (size / 4096 - first_element_page, omega arith, omega arith, omega arith)

pub returns-clause-unread : goal.returns-clause-unread
returns-clause-unread g c told =
    let v = g.V.Volume.device c.args.vol.now in
    let over = subst (λ o. JournalRead o v.held c.read_journal.new.overlay.entries) c.in-Some.is (c.in_ok-length.ensures.ok told) in
    subst (λ (p : ℕ). StaysUnread p v.held) (sym c.at.ensures)
    (stays_unread v.held c.in-Some.length over.rs (omega (arith, (g.met.V.Volume.lawful c.args.vol.now).size told, volume_long v.size (returns-clause-size g c))) over.stands)

pub returns-in_default-clause-malformed : goal.returns-in_default-clause-malformed
returns-in_default-clause-malformed g c told one =
    let v = g.V.Volume.device c.args.vol.now in
    let lawful = g.met.V.Volume.lawful c.args.vol.now in
    let small = lawful.bytes told v.held (lawful.held told) in
    let is = c.len-bytes.ensures in
    let size : IsVolumeSize v.size = (v.size / 4096 - first_element_page, omega arith, omega arith, omega arith) in
    journal_malformed v.held (subst IsVolumeSize (sym (lawful.size told)) size) small
    (subst (λ o. JournalRead o v.held c.read_journal.new.overlay.entries) c.in_default.is (c.in_ok-length.ensures.ok told))

pub returns-clause-malformed : goal.returns-clause-malformed
returns-clause-malformed g c told malformed =
    let v = g.V.Volume.device c.args.vol.now in
    let lawful = g.met.V.Volume.lawful c.args.vol.now in
    let small = lawful.bytes told v.held (lawful.held told) in
    let over = subst (λ o. JournalRead o v.held c.read_journal.new.overlay.entries) c.in-Some.is (c.in_ok-length.ensures.ok told) in
    none-some over.rs (sym (journal_is_none v.held (subst IsVolumeSize (sym (lawful.size told)) (returns-clause-size g c)) small malformed) ∙ over.stands.records)
