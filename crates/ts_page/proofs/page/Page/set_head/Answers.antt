use Rattle.std.proofs.Common.{◌++◌, ap, ◌∙◌, List, ℕ}
use Rattle.ts_page.specs.Pages.{head_of}
use Rattle.ts_page.proofs.HeadLemmas.{head_of-written}
use borrow.Rule.Slice.PartMut.{post_of}
use Rattle.ts_page.proofs.page.Page.set_head.Goals as goal

pub returns-clause-read_again : goal.returns-clause-read_again
returns-clause-read_again c =
    let rest = post_of 0 32 c.args.self.now.bytes in
    ap (λ (l : List ℕ). head_of (l ++ rest)) (c.copy_from_slice.ensures.after ∙ c.head_bytes.ensures.bytes)
    ∙ head_of-written c.args.head.now rest c.head_bytes.ensures.fits
