-- The catalogue of a view: what its pages mean, over the newest ones.
use Rattle.std.specs.Prelude.{Bool, List, [], reverse}
use Rattle.ts_page.specs.Pages.{Contents}
use Rattle.ts_model.specs.Catalogue.{Catalogue}
use Rattle.ts_layout.specs.Meaning.{Means}
use Rattle.ts_views.specs.declared.view.View.{View}
use Rattle.ts_views.specs.Pages.{view_contents}
use Rattle.ts_views.specs.View.{pages_of}
use Rattle.ts_answer.specs.View.{View as Seen, view, IsSeen}

-- what a command sees of a view, before it changes anything
abbrev pub seen_through : View → Contents → Seen
seen_through v newest =
    view v.defs.definitions v.space (view_contents v.old.entries v.own.entries [] (reverse v.free.items) newest)

-- Commands can be carried out on a view: what it keeps in memory keeps its rules, and where the pages are told, it is
-- what a layout has that the view's pages hold.
abbrev pub IsViewReady : Bool → View → Contents → Type 0
IsViewReady tells v newest = IsSeen tells (seen_through v newest)

-- the pages of a view mean a catalogue
abbrev pub ViewMeans : View → Contents → Catalogue → Type 0
ViewMeans v newest cat = Means newest.count (pages_of v newest.page) cat
