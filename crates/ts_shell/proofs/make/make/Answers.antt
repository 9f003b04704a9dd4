use Rattle.std.proofs.Common.{◌≡◌, ℕ, ◌+◌, ◌*◌, List, length, replicate, inr, refl, ◌∙◌, ap}
use Rattle.ts_disk.specs.Device.{overwritten}
use Rattle.ts_page.specs.Pages.{first_element_page}
use Rattle.ts_model.specs.Catalogue.{newest_format}
use Rattle.ts_shell.proofs.NewLemmas.{new_means}
use Rattle.ts_shell.proofs.MakingLemmas.{header_length, written_new, zeros_held, written, written_synced, empty_from}
use Rattle.ts_shell.proofs.make.make.Goals as goal

pub returns-clause-means : goal.returns-clause-means
returns-clause-means g c = λ told.
    let tells = g.V.Volume.tells in
    let pages = c.args.pages in
    let size : ℕ = 4096 * (first_element_page + pages) in
    let v = g.V.Volume.device c.args.vol.now in
    let a = g.V.Volume.device c.resize.new.self in
    let b = g.V.Volume.device c.sync.new.self in
    let f = g.V.Volume.device c.sync-2.new.self in
    let header : List ℕ = c.write_header.new.page.bytes in
    let whole : length header ≡ 4096 = ap length c.write_header.ensures ∙ header_length _ pages in
    let zeros = zeros_held tells told pages size c.requires.some c.requires.limit refl v a b (g.met.V.Volume.lawful c.args.vol.now) (g.met.V.Volume.lawful c.sync.new.self) c.requires.empty c.in_ok-resize.ensures c.in_ok-sync.ensures in
    let held : f.held ≡ overwritten 0 header (replicate size 0) = c.sync-2.ensures.held ∙ c.in_ok-write_at.ensures.written told ∙ ap (overwritten 0 header) (c.sync.ensures.held ∙ zeros) in
    new_means newest_format pages f.held (inr refl) c.requires.some c.requires.limit (written_new pages size c.requires.some c.requires.limit refl newest_format header f.held c.write_header.ensures whole held)

pub returns-clause-moments : goal.returns-clause-moments
returns-clause-moments g c = λ told more.
    let tells = g.V.Volume.tells in
    let pages = c.args.pages in
    let size : ℕ = 4096 * (first_element_page + pages) in
    let v = g.V.Volume.device c.args.vol.now in
    let a = g.V.Volume.device c.resize.new.self in
    let b = g.V.Volume.device c.sync.new.self in
    let d = g.V.Volume.device c.write_at.new.self in
    let f = g.V.Volume.device c.sync-2.new.self in
    let header : List ℕ = c.write_header.new.page.bytes in
    let whole : length header ≡ 4096 = ap length c.write_header.ensures ∙ header_length _ pages in
    let lawful = g.met.V.Volume.lawful c.args.vol.now in
    let later = g.met.V.Volume.lawful c.sync.new.self in
    empty_from tells told pages size c.requires.some c.requires.limit refl v a b lawful later c.requires.empty c.in_ok-resize.ensures c.in_ok-sync.ensures f
    (written_synced tells told pages size c.requires.some c.requires.limit refl v a b lawful later c.requires.empty c.in_ok-resize.ensures c.in_ok-sync.ensures header whole d c.write_at.result c.write_at.ensures f c.sync-2.result c.sync-2.ensures)

pub returns-in_err-sync-2-clause-moments : goal.returns-in_err-sync-2-clause-moments
returns-in_err-sync-2-clause-moments g c = λ told more.
    let tells = g.V.Volume.tells in
    let pages = c.args.pages in
    let size : ℕ = 4096 * (first_element_page + pages) in
    let v = g.V.Volume.device c.args.vol.now in
    let a = g.V.Volume.device c.resize.new.self in
    let b = g.V.Volume.device c.sync.new.self in
    let d = g.V.Volume.device c.write_at.new.self in
    let f = g.V.Volume.device c.sync-2.new.self in
    let header : List ℕ = c.write_header.new.page.bytes in
    let whole : length header ≡ 4096 = ap length c.write_header.ensures ∙ header_length _ pages in
    let lawful = g.met.V.Volume.lawful c.args.vol.now in
    let later = g.met.V.Volume.lawful c.sync.new.self in
    empty_from tells told pages size c.requires.some c.requires.limit refl v a b lawful later c.requires.empty c.in_ok-resize.ensures c.in_ok-sync.ensures f
    (written_synced tells told pages size c.requires.some c.requires.limit refl v a b lawful later c.requires.empty c.in_ok-resize.ensures c.in_ok-sync.ensures header whole d c.write_at.result c.write_at.ensures f c.sync-2.result c.sync-2.ensures)

pub returns-in_err-write_at-clause-moments : goal.returns-in_err-write_at-clause-moments
returns-in_err-write_at-clause-moments g c = λ told more.
    let tells = g.V.Volume.tells in
    let pages = c.args.pages in
    let size : ℕ = 4096 * (first_element_page + pages) in
    let v = g.V.Volume.device c.args.vol.now in
    let a = g.V.Volume.device c.resize.new.self in
    let b = g.V.Volume.device c.sync.new.self in
    let d = g.V.Volume.device c.write_at.new.self in
    let header : List ℕ = c.write_header.new.page.bytes in
    let whole : length header ≡ 4096 = ap length c.write_header.ensures ∙ header_length _ pages in
    let lawful = g.met.V.Volume.lawful c.args.vol.now in
    let later = g.met.V.Volume.lawful c.sync.new.self in
    empty_from tells told pages size c.requires.some c.requires.limit refl v a b lawful later c.requires.empty c.in_ok-resize.ensures c.in_ok-sync.ensures d
    (written tells told pages size c.requires.some c.requires.limit refl v a b lawful later c.requires.empty c.in_ok-resize.ensures c.in_ok-sync.ensures header whole d c.write_at.result c.write_at.ensures)
