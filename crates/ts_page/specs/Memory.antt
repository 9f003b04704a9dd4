-- What pages in memory mean.
use Rattle.std.specs.Prelude.{reverse}
use Rattle.ts_page.specs.declared.memory_pages.MemoryPages.{MemoryPages}
use Rattle.ts_page.specs.Pages.{Contents, kept}

-- the list of them, and the pages that can be taken, of which the next stands last
abbrev pub memory_contents : MemoryPages → Contents
memory_contents m = kept m.pages.items (reverse m.free.items)
