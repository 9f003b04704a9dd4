use Rattle.std.proofs.Common.{◌≡◌, ℕ, List, [], ◌∷◌, ◌++◌, ap, ◌∙◌}
use Rattle.std.specs.Prelude.{codes}
use Rattle.std.proofs.lemmas.Result.{on_ok_weaker}
use Rattle.ts_base.specs.Moment.{stamp_text}
use Rattle.ts_dump_texts.specs.Texts.{quoted_before}
use Rattle.ts_dump.proofs.TextLemmas.{behind, quoted_rest}
use Rattle.ts_dump.proofs.texts.print_regular.Goals as goal

pub returns : goal.returns
returns c = on_ok_weaker c.extend_from_slice-7.result (λ last.
    let t1 : c.extend_from_slice-7.new.self ≡ c.extend_from_slice-5.new.self ++ (c.args.container.now ++ (codes ");")) = behind c.extend_from_slice-5.new.self c.extend_from_slice-6.new.self c.extend_from_slice-7.new.self (c.args.container.now) (codes ");") c.in_ok-extend_from_slice-6.ensures.ok last in
    let t2 : c.extend_from_slice-7.new.self ≡ c.print_stamp.new.out ++ (44 ∷ 32 ∷ [] ++ (c.args.container.now ++ (codes ");"))) = behind c.print_stamp.new.out c.extend_from_slice-5.new.self c.extend_from_slice-7.new.self (44 ∷ 32 ∷ []) (c.args.container.now ++ (codes ");")) c.in_ok-extend_from_slice-5.ensures.ok t1 in
    let t3 : c.extend_from_slice-7.new.self ≡ c.extend_from_slice-4.new.self ++ (quoted_before (stamp_text c.args.origin) (44 ∷ 32 ∷ [] ++ (c.args.container.now ++ (codes ");")))) = behind c.extend_from_slice-4.new.self c.print_stamp.new.out c.extend_from_slice-7.new.self (quoted_before (stamp_text c.args.origin) []) (44 ∷ 32 ∷ [] ++ (c.args.container.now ++ (codes ");"))) c.in_ok-print_stamp.ensures t2 ∙ ap (λ (l : List ℕ). c.extend_from_slice-4.new.self ++ l) (quoted_rest (stamp_text c.args.origin) (44 ∷ 32 ∷ [] ++ (c.args.container.now ++ (codes ");")))) in
    let t4 : c.extend_from_slice-7.new.self ≡ c.extend_from_slice-3.new.self ++ (44 ∷ 32 ∷ [] ++ (quoted_before (stamp_text c.args.origin) (44 ∷ 32 ∷ [] ++ (c.args.container.now ++ (codes ");"))))) = behind c.extend_from_slice-3.new.self c.extend_from_slice-4.new.self c.extend_from_slice-7.new.self (44 ∷ 32 ∷ []) (quoted_before (stamp_text c.args.origin) (44 ∷ 32 ∷ [] ++ (c.args.container.now ++ (codes ");")))) c.in_ok-extend_from_slice-4.ensures.ok t3 in
    let t5 : c.extend_from_slice-7.new.self ≡ c.extend_from_slice-2.new.self ++ (c.args.calendar.now ++ (44 ∷ 32 ∷ [] ++ (quoted_before (stamp_text c.args.origin) (44 ∷ 32 ∷ [] ++ (c.args.container.now ++ (codes ");")))))) = behind c.extend_from_slice-2.new.self c.extend_from_slice-3.new.self c.extend_from_slice-7.new.self (c.args.calendar.now) (44 ∷ 32 ∷ [] ++ (quoted_before (stamp_text c.args.origin) (44 ∷ 32 ∷ [] ++ (c.args.container.now ++ (codes ");"))))) c.in_ok-extend_from_slice-3.ensures.ok t4 in
    let t6 : c.extend_from_slice-7.new.self ≡ c.print_quoted.new.out ++ (44 ∷ 32 ∷ [] ++ (c.args.calendar.now ++ (44 ∷ 32 ∷ [] ++ (quoted_before (stamp_text c.args.origin) (44 ∷ 32 ∷ [] ++ (c.args.container.now ++ (codes ");"))))))) = behind c.print_quoted.new.out c.extend_from_slice-2.new.self c.extend_from_slice-7.new.self (44 ∷ 32 ∷ []) (c.args.calendar.now ++ (44 ∷ 32 ∷ [] ++ (quoted_before (stamp_text c.args.origin) (44 ∷ 32 ∷ [] ++ (c.args.container.now ++ (codes ");")))))) c.in_ok-extend_from_slice-2.ensures.ok t5 in
    let t7 : c.extend_from_slice-7.new.self ≡ c.extend_from_slice.new.self ++ (quoted_before (c.args.key.now) (44 ∷ 32 ∷ [] ++ (c.args.calendar.now ++ (44 ∷ 32 ∷ [] ++ (quoted_before (stamp_text c.args.origin) (44 ∷ 32 ∷ [] ++ (c.args.container.now ++ (codes ");")))))))) = behind c.extend_from_slice.new.self c.print_quoted.new.out c.extend_from_slice-7.new.self (quoted_before c.args.key.now []) (44 ∷ 32 ∷ [] ++ (c.args.calendar.now ++ (44 ∷ 32 ∷ [] ++ (quoted_before (stamp_text c.args.origin) (44 ∷ 32 ∷ [] ++ (c.args.container.now ++ (codes ");"))))))) (c.in_ok-print_quoted.ensures ∙ ap (λ (l : List ℕ). c.extend_from_slice.new.self ++ quoted_before l []) c.as_slice.ensures.value) t6 ∙ ap (λ (l : List ℕ). c.extend_from_slice.new.self ++ l) (quoted_rest (c.args.key.now) (44 ∷ 32 ∷ [] ++ (c.args.calendar.now ++ (44 ∷ 32 ∷ [] ++ (quoted_before (stamp_text c.args.origin) (44 ∷ 32 ∷ [] ++ (c.args.container.now ++ (codes ");")))))))) in
    behind c.args.out.now c.extend_from_slice.new.self c.extend_from_slice-7.new.self (codes "TSCreate(") (quoted_before (c.args.key.now) (44 ∷ 32 ∷ [] ++ (c.args.calendar.now ++ (44 ∷ 32 ∷ [] ++ (quoted_before (stamp_text c.args.origin) (44 ∷ 32 ∷ [] ++ (c.args.container.now ++ (codes ");")))))))) c.in_ok-extend_from_slice.ensures.ok t7) c.extend_from_slice-7.ensures.ok
