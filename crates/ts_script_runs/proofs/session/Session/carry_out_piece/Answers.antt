use Rattle.std.proofs.Common.{◌≡◌, ◌==◌, ℕ, suc, true, length, List, [], ◌∷◌, ◌++◌, take, drop, Option, Ok, Err, refl, sym, ◌∙◌, ap, append_assoc, take-append-drop, arith}
use Rattle.std.proofs.lemmas.Bool.Decides.{nat_tests}
use Rattle.std.proofs.lemmas.List.{append-nil}
use Rattle.ts_items.specs.Items.{place_from}
use Rattle.ts_items.proofs.ItemLaws.{place_from-append}
use Rattle.ts_items.proofs.RunLemmas.{rest_whole}
use Rattle.ts_script_runs.specs.Script.{script, by_engine, requests_from}
use Rattle.ts_script_runs.proofs.ItemLemmas.{steady}
use Rattle.ts_carriers.proofs.CallerLemmas.{ran_none, ran_as, ran_failed_as}
use Rattle.ts_script_runs.proofs.FeedLemmas.{ran_behind, ran_of}
use Rattle.ts_script_runs.proofs.session.Session.carry_out_piece.Goals as goal

-- nothing is left
no_rest : (rest : List ℕ) → (length rest == 0) ≡ true → rest ≡ []
no_rest [] none = refl
no_rest (b ∷ rest) none = absurd (let zero : suc (length rest) ≡ 0 = grind (arith, nat_tests) in omega (arith, zero))

pub loop-rest-init : goal.loop-rest-init
loop-rest-init g c = record {
  ready = c.requires.ready;
  read = ([], refl, refl, ran_none (by_engine g.S.Volume.tells) script (steady g.S.Volume.tells) (tt {0}) c.args.self.now.engine (g.S.Volume.device c.args.site.now) (g.met.S.Volume.lawful c.args.site.now) c.requires.ready);
}

pub loop-rest-preserved : goal.loop-rest-preserved
loop-rest-preserved g c =
    let tells = g.S.Volume.tells in
    let place = c.args.self.now.reader.place in
    let read = c.loop-rest.invariant.read in
    let rest : List ℕ = c.loop-rest.rest.now in
    let n = c.in-Ok.count in
    let v = g.S.Volume.device c.args.site.now in
    let x = g.S.Volume.device c.loop-rest.site in
    let w = g.S.Volume.device c.carry_out_next.new.site in
    record {
      ready = c.in-Ok.ensures.ran.ready;
      read = (
        read.0 ++ take n rest,
        read.1 ∙ ap (λ (l : List ℕ). read.0 ++ l) (sym (take-append-drop n rest)) ∙ sym (append_assoc read.0 (take n rest) (drop n rest)) ∙ ap (λ (l : List ℕ). read.0 ++ take n rest ++ l) (sym (rest_whole rest n)),
        c.in-Ok.ensures.place ∙ ap (λ (p : Option (List ℕ)). place_from p (take n rest)) read.2 ∙ sym (place_from-append place read.0 (take n rest)),
        ran_as (by_engine tells) script (steady tells) (requests_from place (read.0 ++ take n rest)) n (tt {0}) c.args.self.now.engine c.carry_out_next.new.self.engine v w
            (ran_behind tells place c.loop-rest.self.reader.place read.0 (take n rest) (tt {0}) (Ok n) c.args.self.now.engine c.loop-rest.self.engine c.carry_out_next.new.self.engine v x w read.3 read.2 c.in-Ok.ensures.ran),
      );
    }

pub returns-in-Err-clause-ran : goal.returns-in-Err-clause-ran
returns-in-Err-clause-ran g c =
    let tells = g.S.Volume.tells in
    let place = c.args.self.now.reader.place in
    let read = c.loop-rest.invariant.read in
    let rest : List ℕ = c.loop-rest.rest.now in
    let v = g.S.Volume.device c.args.site.now in
    let x = g.S.Volume.device c.loop-rest.site in
    let w = g.S.Volume.device c.carry_out_next.new.site in
    let e = c.args.self.now.engine in
    let h = c.carry_out_next.new.self.engine in
    ran_of tells (requests_from place (read.0 ++ rest)) (requests_from place c.args.piece.now) (Err c.in-Err.fault) e h v w (ap (requests_from place) (sym read.1))
    (ran_behind tells place c.loop-rest.self.reader.place read.0 rest (tt {0}) (Err c.in-Err.fault) e c.loop-rest.self.engine h v x w read.3 read.2
    (ran_failed_as (by_engine tells) script (steady tells) (requests_from c.loop-rest.self.reader.place rest) c.in-Err.fault c.loop-rest.self.engine h x w (c.in-Err.ensures.fault refl)))

pub returns-clause-ran : goal.returns-clause-ran
returns-clause-ran g c =
    let tells = g.S.Volume.tells in
    let place = c.args.self.now.reader.place in
    let read = c.loop-rest.invariant.read in
    let none = no_rest c.loop-rest.rest.now (sym c.is_empty.ensures ∙ c.loop-rest-test.false) in
    ran_of tells (requests_from place read.0) (requests_from place c.args.piece.now) (Ok (tt {0})) c.args.self.now.engine c.loop-rest.self.engine (g.S.Volume.device c.args.site.now) (g.S.Volume.device c.loop-rest.site)
    (ap (requests_from place) (sym (read.1 ∙ ap (λ (l : List ℕ). read.0 ++ l) none ∙ append-nil read.0))) read.3

pub returns-clause-place : goal.returns-clause-place
returns-clause-place g c =
    let place = c.args.self.now.reader.place in
    let read = c.loop-rest.invariant.read in
    let none = no_rest c.loop-rest.rest.now (sym c.is_empty.ensures ∙ c.loop-rest-test.false) in
    read.2 ∙ ap (place_from place) (sym (read.1 ∙ ap (λ (l : List ℕ). read.0 ++ l) none ∙ append-nil read.0))
