-- What a command that reads elements does to one view, and to the engine that answers it.
use Rattle.std.specs.Prelude.{◌≡◌, ℕ, Bool, IsTrue, Result, List, reverse}
use Rattle.ts_command.specs.declared.command.Command.{Command}
use Rattle.ts_disk.specs.Device.{Device}
use Rattle.ts_page.specs.Pages.{EqualPages}
use Rattle.ts_journal.specs.Journal.{Entry}
use Rattle.ts_answer.specs.declared.stop.Stop.{Stop}
use Rattle.ts_answer.specs.CarriedOut.{ReadOut}
use Rattle.ts_store.specs.OpenBatch.{read_pages, contents_over}
use Rattle.ts_store.specs.Undisturbed.{Undisturbed}
use Rattle.ts_views.specs.declared.view.View.{View}
use Rattle.ts_views.specs.Pages.{view_contents}
use Rattle.ts_view_catalogues.specs.Catalogues.{seen_through}
use Rattle.ts_engine.specs.Ended.{with_dropped}
use Rattle.ts_engine.specs.Engine.{Kept}
use Rattle.ts_session_engine.specs.Beside.{newest}
use Rattle.ts_session_engine.specs.Viewed.{IsSameView}

-- It was answered on the pages of the view over those that were committed last, which were read in an open batch that
-- was dropped then, or not. The view keeps all that it has.
pub record ReadsInView (tells : Bool) (command : Command) (result : Result Unit Stop) (out : List ℕ) (e f : Kept)
    (x y : View) (v w : Device) : Type 0 where
  pub middle : Kept
  pub is : middle ≡ record e { store = middle.store }
  pub drop : f ≡ with_dropped middle
  pub calls : Undisturbed tells e.store middle.store v w
  pub reads : IsTrue tells → EqualPages (read_pages e.store v.held) (read_pages middle.store w.held)
  pub same : IsSameView x y
  pub unnoted : y.commands.items ≡ x.commands.items
  -- the changes and the free pages over which the pages of the view were read
  pub changes : List Entry
  pub free : List ℕ
  pub read : ReadOut tells command result out (seen_through x (newest e v))
      (view_contents x.old.entries x.own.entries changes (reverse free) (contents_over middle.store w))
