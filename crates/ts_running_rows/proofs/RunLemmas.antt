-- The rows that are made one after the other are those of the running values.
use Rattle.std.proofs.Common.{◌≡◌, ℕ, ◌+◌, ◌-◌, Option, List, [], ◌∷◌, ◌++◌, length, length-append, map, take, drop, refl, sym, ap, ◌∙◌, arith, append_assoc, IsTrue}
use Rattle.std.specs.Prelude.{ℤ}
use Rattle.std.specs.List.{enumerate_from}
use Rattle.std.proofs.lemmas.List.{length-map, map-append, drop-map, take_all, take-append-le}
use Rattle.circular_buffer.specs.Buffer.{keep_last}
use Rattle.ts_row.specs.Row.{visible, Element}
use Rattle.ts_expr.specs.declared.function.Function.{Function}
use Rattle.ts_expr.specs.Aggregates.{values_of, made}
use Rattle.ts_running.specs.Rows.{window, window_at, value_over, running}
use Rattle.ts_running.specs.Places.{place_of, places, is_running, made_over}
use Rattle.ts_running.proofs.WindowLaws.{kept_again, nothing_kept}
use Rattle.ts_running.proofs.PlaceLemmas.{rows, made_places}
use Rattle.ts_running_rows.specs.Run.{row_of, run}

-- an element with its number, as its row
abbrev pub numbered_row : Function → ℕ → ℕ → List Element → ℕ × Element → Element
numbered_row function column n all e = (e.1.0, visible (value_over function column n all e.0 ∷ []))

module _ (function : Function) (column n : ℕ) where
  abbrev place : Element → Option ℤ
  place e = place_of column e.1

  -- the places of the last elements are the last places
  kept_places : (es : List Element) → keep_last n (places column es) ≡ places column (drop (length es - n) es)
  kept_places es = ap (λ k. drop (k - n) (places column es)) (length-map es place) ∙ drop-map place (length es - n) es

  -- the window at the element behind some
  window_behind : (before : List Element) (e : Element) (es : List Element) → window_at (before ++ e ∷ es) n (length before)
      ≡ drop (length (before ++ e ∷ []) - n) (before ++ e ∷ [])
  window_behind before e es =
      let all = before ++ e ∷ [] in
      let long : length all ≡ length before + 1 = length-append before (e ∷ []) in
      ap (λ l. drop (length before + 1 - n) (take (length before + 1) l)) (sym (append_assoc before (e ∷ []) es))
      ∙ ap (λ k. drop (k - n) (take k (all ++ es))) (sym long)
      ∙ ap (drop (length all - n)) (take-append-le (length all) all es (omega arith) ∙ take_all (length all) all (omega arith))

  module _ (is : IsTrue (is_running function)) where
    value_behind : (before : List Element) (e : Element) (es : List Element) →
        made_over function (keep_last n (places column (before ++ e ∷ [])))
        ≡ value_over function column n (before ++ e ∷ es) (length before)
    value_behind before e es =
        let all = before ++ e ∷ [] in
        ap (made_over function) (kept_places all) ∙ made_places function is column (drop (length all - n) all)
        ∙ ap (λ (l : List Element). made function (values_of column (rows l))) (sym (window_behind before e es))

    -- a window after the place of one more element
    one_more : (before : List Element) (e : Element) →
        keep_last n (keep_last n (places column before) ++ place e ∷ []) ≡ keep_last n (places column (before ++ e ∷ []))
    one_more before e =
        kept_again n (places column before) (place e ∷ []) ∙ ap (keep_last n) (sym (map-append place before (e ∷ [])))

    run_behind : (before es : List Element) → run function column (window (keep_last n (places column before)) n) es
        ≡ map (numbered_row function column n (before ++ es)) (enumerate_from (length before) es)
    run_behind before [] = refl
    run_behind before (e ∷ es) =
        let all = before ++ e ∷ [] in
        let same : all ++ es ≡ before ++ e ∷ es = append_assoc before (e ∷ []) es in
        ap (λ (l : List (Option ℤ)). row_of function e.0 (window l n) ∷ run function column (window l n) es) (one_more before e)
        ∙ ap (λ v. (e.0, visible (v ∷ [])) ∷ run function column (window (keep_last n (places column all)) n) es)
        (value_behind before e es)
        ∙ ap (λ (l : List Element). numbered_row function column n (before ++ e ∷ es) (length before, e) ∷ l)
        (run_behind all es
        ∙ ap (λ k. map (numbered_row function column n (all ++ es)) (enumerate_from k es)) (length-append before (e ∷ []))
        ∙ ap (λ (l : List Element). map (numbered_row function column n l) (enumerate_from (length before + 1) es)) same)

    pub run_is : (es : List Element) → run function column (window [] n) es ≡ running function column n es
    run_is es = ap (λ (l : List (Option ℤ)). run function column (window l n) es) (sym (nothing_kept n)) ∙ run_behind [] es
