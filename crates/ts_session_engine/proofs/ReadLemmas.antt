-- A command that reads elements, answered on a view.
use Rattle.std.specs.declared.alloc.AllocError.{AllocError}
use Rattle.std.proofs.Common.{◌≡◌, ℕ, Bool, true, false, if◌then◌else◌, None, Result, Ok, List, [], ◌∷◌, ◌++◌, reverse, refl, ap, sym, ◌∙◌, subst}
use Rattle.std.proofs.lemmas.List.{reverse-reverse}
use Rattle.ts_command.specs.declared.command.Command.{Command}
use Rattle.ts_command.specs.declared.command.Command.TheVariants as commands
use Rattle.ts_command.specs.Boundary.{is_writing}
use Rattle.ts_disk.specs.Device.{Device}
use Rattle.ts_page.specs.Pages.{Contents}
use Rattle.ts_journal.specs.Journal.{Entry}
use Rattle.ts_store.specs.OpenBatch.{contents_over}
use Rattle.ts_answer.specs.declared.effect.Effect.TheVariants.{Nothing}
use Rattle.ts_answer.specs.declared.stop.Stop.{Stop}
use Rattle.ts_answer.specs.CarriedOut.{ReadOut}
use Rattle.ts_answer.specs.View.{view}
use Rattle.ts_answer.proofs.CallerLemmas.{read_carried}
use Rattle.ts_views.specs.declared.view.View.{View}
use Rattle.ts_views.specs.Pages.{view_contents}
use Rattle.ts_view_catalogues.specs.Catalogues.{IsViewReady}
use Rattle.ts_engine.specs.Engine.{Kept, IsReady}
use Rattle.ts_engine.specs.Reading.{reads_elements}
use Rattle.ts_engine.specs.Work.{work_of}
use Rattle.ts_session_engine.specs.Beside.{newest}
use Rattle.ts_session_engine.specs.Read.{ReadsInView}
use Rattle.ts_session_engine.specs.Viewed.{IsSameView, KeepsEffect, StepsOwn}
use Rattle.ts_session_engine.proofs.OwnLemmas.{answered_own, newest_is}

-- it doesn't write
pub unwritten : (command : Command) → reads_elements (work_of command) ≡ true → is_writing command ≡ false
unwritten (commands.GetElem key stamp) reads = refl
unwritten (commands.GetLastElem key) reads = refl
unwritten (commands.GetFirstElem key) reads = refl
unwritten (commands.GetNthElem key index) reads = refl
unwritten (commands.Clip key from to) reads = refl
unwritten (commands.ClipCount key stamp count) reads = refl
unwritten (commands.ClipGetCount key from to) reads = refl
unwritten (commands.Union first second from to) reads = refl
unwritten (commands.Intersect first second from to) reads = refl
unwritten (commands.Lag key by) reads = refl
unwritten (commands.AggregateBy text calendar key from to) reads = refl
unwritten (commands.AggregateRange text key from to) reads = refl
unwritten (commands.AggregateAll text container from to) reads = refl
unwritten (commands.TSRunningSum text key span from to) reads = refl
unwritten (commands.TSRunningAvg text key span from to) reads = refl
unwritten (commands.Apply text key from to) reads = refl
unwritten (commands.RollingClip set from to) reads = refl
unwritten other reads = absurd (cc)

-- lists that are the same backwards are the same
pub same_backwards : (a b : List ℕ) → reverse a ≡ reverse b → a ≡ b
same_backwards a b same = sym (reverse-reverse a) ∙ ap (λ (l : List ℕ). reverse l) same ∙ reverse-reverse b

-- what was read over the view's own free pages and over no change, was read as the view is seen
pub read_given : (tells : Bool) (e : Kept) (v : Device) → IsReady tells e v → e.saved ≡ None → (x : View) (changes : List Entry) (free : List ℕ) → changes ≡ [] → free ≡ x.free.items → (command : Command) (r : Result Unit Stop) (out : List ℕ) (c : Contents)
    → ReadOut tells command r out (view x.defs.definitions x.space (view_contents x.old.entries x.own.entries changes (reverse free) (contents_over e.store v))) c
    → ReadOut tells command r out (view x.defs.definitions x.space (view_contents x.old.entries x.own.entries [] (reverse x.free.items) (newest e v))) c
read_given tells e v ready rests x changes free none same command r out c read =
    let At : List Entry × List ℕ × Contents → Type 0 = λ p. ReadOut tells command r out (view x.defs.definitions x.space (view_contents x.old.entries x.own.entries p.0 (reverse p.1) p.2)) c in
    let there : ◌≡◌ {A = List Entry × List ℕ × Contents} (changes, free, contents_over e.store v) ([], x.free.items, newest e v) = λ i. (none i, same i, sym (newest_is tells e v ready rests) i) in
    subst At there read

-- a view that is as it was keeps what it is to keep of such a command
kept_reading : (command : Command) (changes : List Entry) (free : List ℕ) (x y : View) → is_writing command ≡ false → IsSameView x y → y.commands.items ≡ x.commands.items → KeepsEffect {E = AllocError} command Nothing (Ok tt) changes free x y
kept_reading command changes free x y reads same unnoted = record {
  noted = subst (λ (b : Bool). y.commands.items ≡ (if b then x.commands.items ++ command ∷ [] else x.commands.items)) (sym reads) unnoted;
  taken = λ writes. absurd (cc);
  nothing = λ is. same;
  unnoted = tt;
  err = tt;
}

-- it was answered
pub read_own_done : (tells : Bool) (command : Command) (out : List ℕ) (e f : Kept) (x y : View) (v w : Device) → IsReady tells e v → e.saved ≡ None → IsViewReady tells x (newest e v) → reads_elements (work_of command) ≡ true → ReadsInView tells command (Ok tt) out e f x y v w
    → StepsOwn tells command (Ok tt) out e f x y v w
read_own_done tells command out e f x y v w ready rests xready reads does =
    answered_own tells command e does.middle f v w ready rests x xready does.calls does.reads does.is does.drop does.read.no_fault Nothing out does.changes does.free y
    (read_carried tells command x.defs.definitions x.space (view_contents x.old.entries x.own.entries [] (reverse x.free.items) (newest e v)) (view_contents x.old.entries x.own.entries does.changes (reverse does.free) (contents_over does.middle.store w)) out does.read)
    (kept_reading command does.changes does.free x y (unwritten command reads) does.same does.unnoted)
