use Rattle.std.proofs.Common.{◌≡◌, ℕ, List, [], ◌∷◌, ◌++◌, ap, ◌∙◌}
use Rattle.std.specs.Prelude.{codes}
use Rattle.std.proofs.lemmas.Result.{on_ok_weaker}
use Rattle.std.specs.Fmt.{decimal}
use Rattle.ts_dump.proofs.TextLemmas.{behind}
use Rattle.ts_dump.proofs.texts.print_container.Goals as goal

pub returns : goal.returns
returns c = on_ok_weaker c.extend_from_slice-6.result (λ last.
    let t1 : c.extend_from_slice-6.new.self ≡ c.extend_from_slice-5.new.self ++ (decimal c.args.quota ++ (codes ");")) = behind c.extend_from_slice-5.new.self c.print_number.new.out c.extend_from_slice-6.new.self (decimal c.args.quota) (codes ");") c.in_ok-print_number.ensures.ok last in
    let t2 : c.extend_from_slice-6.new.self ≡ c.extend_from_slice-4.new.self ++ (44 ∷ 32 ∷ [] ++ (decimal c.args.quota ++ (codes ");"))) = behind c.extend_from_slice-4.new.self c.extend_from_slice-5.new.self c.extend_from_slice-6.new.self (44 ∷ 32 ∷ []) (decimal c.args.quota ++ (codes ");")) c.in_ok-extend_from_slice-5.ensures.ok t1 in
    let t3 : c.extend_from_slice-6.new.self ≡ c.extend_from_slice-3.new.self ++ (c.args.row_type.now ++ (44 ∷ 32 ∷ [] ++ (decimal c.args.quota ++ (codes ");")))) = behind c.extend_from_slice-3.new.self c.extend_from_slice-4.new.self c.extend_from_slice-6.new.self (c.args.row_type.now) (44 ∷ 32 ∷ [] ++ (decimal c.args.quota ++ (codes ");"))) c.in_ok-extend_from_slice-4.ensures.ok t2 in
    let t4 : c.extend_from_slice-6.new.self ≡ c.extend_from_slice-2.new.self ++ (44 ∷ 32 ∷ [] ++ (c.args.row_type.now ++ (44 ∷ 32 ∷ [] ++ (decimal c.args.quota ++ (codes ");"))))) = behind c.extend_from_slice-2.new.self c.extend_from_slice-3.new.self c.extend_from_slice-6.new.self (44 ∷ 32 ∷ []) (c.args.row_type.now ++ (44 ∷ 32 ∷ [] ++ (decimal c.args.quota ++ (codes ");")))) c.in_ok-extend_from_slice-3.ensures.ok t3 in
    let t5 : c.extend_from_slice-6.new.self ≡ c.extend_from_slice.new.self ++ (c.args.name.now ++ (44 ∷ 32 ∷ [] ++ (c.args.row_type.now ++ (44 ∷ 32 ∷ [] ++ (decimal c.args.quota ++ (codes ");")))))) = behind c.extend_from_slice.new.self c.extend_from_slice-2.new.self c.extend_from_slice-6.new.self (c.args.name.now) (44 ∷ 32 ∷ [] ++ (c.args.row_type.now ++ (44 ∷ 32 ∷ [] ++ (decimal c.args.quota ++ (codes ");"))))) (c.in_ok-extend_from_slice-2.ensures.ok ∙ ap (λ (l : List ℕ). c.extend_from_slice.new.self ++ l) c.as_slice.ensures.value) t4 in
    behind c.args.out.now c.extend_from_slice.new.self c.extend_from_slice-6.new.self (codes "TSContainerCreate(") (c.args.name.now ++ (44 ∷ 32 ∷ [] ++ (c.args.row_type.now ++ (44 ∷ 32 ∷ [] ++ (decimal c.args.quota ++ (codes ");")))))) c.in_ok-extend_from_slice.ensures.ok t5) c.extend_from_slice-6.ensures.ok
