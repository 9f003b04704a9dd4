use Rattle.std.proofs.Common.{◌≡◌, List, [], ◌∷◌, ◌++◌, length, map, get_or, Option, None, false, sym, ap, subst, ◌∙◌, arith}
use Rattle.std.specs.Option.{IsSome}
use Rattle.std.proofs.lemmas.List.{length-map}
use Rattle.ts_multi.specs.declared.object.Object.{Object}
use Rattle.ts_multi.specs.Slot.{Standing}
use Rattle.ts_multi.specs.Log.{Log, Pending, pending_at, with_pending, wrote_of, after_commit}
use Rattle.ts_multi.proofs.SlotLemmas.{put_seen, pending-at, wrote-is, seen}
use Rattle.ts_multi.proofs.sessions.Sessions.commit.Goals as goal

pub returns : goal.returns
returns c =
    let slots = c.self.inside.slots.items in
    let size : length c.args.self.now.sessions ≡ length slots = ap (λ (l : Log). length l.sessions) (sym c.self.view_is) ∙ length-map slots (λ (s : Standing). s.pending) in
    let here : c.index_mut.result.now.pending ≡ get_or (map (λ (s : Standing). s.pending) slots) c.args.session None =
    ap (λ (s : Standing). s.pending) c.index_mut.ensures.value ∙ pending-at slots c.args.session c.index_mut.result.now (omega (arith, size, c.requires.session)) in
    let at : pending_at c.args.session c.args.self.now ≡ c.index_mut.result.now.pending = ap (pending_at c.args.session) (sym c.self.view_is) ∙ sym here in
    let IsOpen : Option Pending → Type 0 = λ o. IsSome o in
    let some = subst IsOpen at c.requires.open in
    let wrote = c.of_transaction.ensures ∙ wrote-is c.index_mut.result.now.pending c.take-noted.result.items some c.take-noted.ensures.noted ∙ ap wrote_of here in
    let commits = c.push_reserved.ensures.items ∙ ap (λ (w : List Object). c.self.inside.commits.items ++ w ∷ []) wrote in
    put_seen c.push_reserved.new.self.items false slots c.args.session c.take-noted.new.self None c.take-noted.ensures.pending
    ∙ ap (λ (l : List (List Object)). with_pending c.args.session None (seen l slots false)) commits
    ∙ ap (after_commit c.args.session) c.self.view_is
