-- One step of a run, and one run behind another.
use Rattle.std.proofs.Common.{◌≡◌, ◌⊎◌, inl, inr, ℕ, List, [], ◌∷◌, ◌++◌, length, length-append, refl, sym, ◌∙◌, ap, append_assoc}
use Rattle.ts_replies.specs.Acknowledged.{Protocol, IsFront, IsFair, AllAnswered, IsStep, TellsApart, IsGood, IsGoodMoment}
use Rattle.ts_replies.proofs.Hearing.{heard-nothing, whole_reply, whole_stand_in, good_between, good_reply, good_stand_in, kept_now, heard_then, good_then, good_more}

module _ {C I : Type 0} (p : Protocol C I) (apart : TellsApart p) where
  -- an item alone, and its whole reply
  pub one_answered : (cat : C) (item : I) (reply : List ℕ) (next : C) → IsStep p cat item reply next → AllAnswered p cat (item ∷ []) reply next
  one_answered cat item reply next (inl is) = rw (is.0, is.1) (whole_reply p apart cat (item ∷ []) [] 0 cat item [] (heard-nothing p apart cat (item ∷ [])))
  one_answered cat item reply next (inr is) = rw is.1 (whole_stand_in p apart cat (item ∷ []) [] 0 cat item [] reply is.0 (heard-nothing p apart cat (item ∷ [])))

  -- an item alone, while its reply is said
  pub one_good : (keeps : C → Type 0) (cat : C) (item : I) (reply front : List ℕ) (next : C) → IsStep p cat item reply next → IsFront front reply → keeps next → IsGood p keeps cat (item ∷ []) front
  one_good keeps cat item reply front next (inl is) f here =
      good_reply p apart keeps cat (item ∷ []) [] front 0 cat item [] (heard-nothing p apart cat (item ∷ [])) (f.0, sym is.0 ∙ f.1) (rw (← is.1) here)
  one_good keeps cat item reply front next (inr is) f here =
      good_stand_in p apart keeps cat (item ∷ []) [] front 0 cat item [] reply is.0 (heard-nothing p apart cat (item ∷ [])) f (rw (← is.1) here)

  -- the same of what was said alone
  pub one_fair : (cat : C) (item : I) (reply front : List ℕ) (next : C) → IsStep p cat item reply next → IsFront front reply → IsFair p cat (item ∷ []) front
  one_fair cat item reply front next step f = (one_good (λ c. Unit {0}) cat item reply front next step f tt).fair

  -- an item alone, before its reply
  pub one_waits : (keeps : C → Type 0) (cat : C) (item : I) → keeps cat ⊎ keeps (p.answer cat item).1 → IsGood p keeps cat (item ∷ []) []
  one_waits keeps cat item (inl now) = good_between p apart keeps cat (item ∷ []) [] 0 cat (item ∷ []) (heard-nothing p apart cat (item ∷ [])) (inl now)
  one_waits keeps cat item (inr next) = good_between p apart keeps cat (item ∷ []) [] 0 cat (item ∷ []) (heard-nothing p apart cat (item ∷ [])) (inr next)

  -- before anything is said
  pub none_good : (keeps : C → Type 0) (cat : C) (items : List I) → keeps cat → IsGood p keeps cat items []
  none_good keeps cat items here = good_between p apart keeps cat items [] 0 cat items (heard-nothing p apart cat items) (kept_now p apart keeps cat items here)

  -- all of the first items are answered, and then all others
  pub answered_then : (cat : C) (items others : List I) (said more : List ℕ) (mid last : C) → AllAnswered p cat items said mid → AllAnswered p mid others more last → AllAnswered p cat (items ++ others) (said ++ more) last
  answered_then cat items others said more mid last first second =
      heard_then p apart cat items others said more (length items) mid first
      ∙ rw second (λ j. record { count = sym (length-append items others) j; catalogue = last; waiting = []; rest = [] })

  -- what is answered is fair
  pub answered_fair : (cat : C) (items : List I) (said : List ℕ) (last : C) → AllAnswered p cat items said last → IsFair p cat items said
  answered_fair cat items said last all = rw all refl

  module _ (image said before : List ℕ) where
    -- more items come
    pub moment_more : (cat : C) (items others : List I) → IsGoodMoment p cat items before image said → IsGoodMoment p cat (items ++ others) before image said
    moment_more cat items others good = (good.0, good.1, good_more p apart (p.means image) cat items others good.0 good.2)

    -- a moment after all of the first items are answered
    pub moment_then : (cat : C) (items others : List I) (gained middle : List ℕ) (mid : C) → AllAnswered p cat items gained mid → middle ≡ before ++ gained → IsGoodMoment p mid others middle image said → IsGoodMoment p cat (items ++ others) before image said
    moment_then cat items others gained middle mid first here good = (
      gained ++ good.0,
      good.1 ∙ ap (λ (l : List ℕ). l ++ good.0) here ∙ append_assoc before gained good.0,
      good_then p apart (p.means image) cat items others gained good.0 (length items) mid first good.2,
    )
