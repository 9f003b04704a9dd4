-- More is said.
use Rattle.std.proofs.Common.{◌≡◌, inl, inr, ℕ, ◌+◌, List, [], ◌∷◌, ◌++◌, append_assoc, zero-add, refl, sym, ◌∙◌, ap, Option, Some, None, arith}
use Rattle.ts_replies.specs.Acknowledged.{Protocol, Heard, behind, behind_stand_in, IsFront, hear, first_heard, heard, one_more, CanFollow, IsFair, TellsApart, IsNowOrNext, IsGood}
use Rattle.std.proofs.lemmas.List.{append-nil}
use Rattle.ts_replies.proofs.Behind.{behind-append, behind-is, behind-more, whole_or_part, none-front}

module _ {C I : Type 0} (p : Protocol C I) (apart : TellsApart p) where
  -- no reply is empty
  pub nothing-heard : (cat : C) (item : I) → behind (p.answer cat item).0 [] ≡ None
  nothing-heard = apart.some

  -- the line in the place of a reply
  stand_in-is : (item : I) (o : Option (List ℕ)) (said : List ℕ) (found : Option (List ℕ)) → p.stand_in item ≡ o → behind_stand_in o said ≡ found → behind_stand_in (p.stand_in item) said ≡ found
  stand_in-is item o said found is e = ap (λ (s : Option (List ℕ)). behind_stand_in s said) is ∙ e

  -- it isn't at the front of a part of a reply
  stand_in-front : (cat : C) (item : I) (q : List ℕ) → IsFront q (p.answer cat item).0 → behind_stand_in (p.stand_in item) q ≡ None
  stand_in-front cat item q front = go (p.stand_in item) refl where
    go : (o : Option (List ℕ)) → p.stand_in item ≡ o → behind_stand_in (p.stand_in item) q ≡ None
    go None is = stand_in-is item None q None is refl
    go (Some line) is = stand_in-is item (Some line) q None is (none-front line q (p.answer cat item).0 front (apart.reply cat item line is))

  -- nor the reply at the front of a part of it
  reply-front : (cat : C) (item : I) (line q : List ℕ) → p.stand_in item ≡ Some line → IsFront q line → behind (p.answer cat item).0 q ≡ None
  reply-front cat item line q is front = none-front (p.answer cat item).0 q line front (ap (behind (p.answer cat item).0) (sym (append-nil line)) ∙ apart.line cat item line [] is)

  pub hear-reply : (cat : C) (item : I) (said rest : List ℕ) → behind (p.answer cat item).0 said ≡ Some rest → hear p cat item said ≡ Some ((p.answer cat item).1, rest)
  hear-reply cat item said rest e = rw e refl

  pub hear-stand_in : (cat : C) (item : I) (line rest : List ℕ) → p.stand_in item ≡ Some line → hear p cat item (line ++ rest) ≡ Some (cat, rest)
  hear-stand_in cat item line rest is =
      rw (apart.line cat item line rest is) (ap (λ (o : Option (List ℕ)). first_heard (p.answer cat item).1 cat None o) (stand_in-is item (Some line) (line ++ rest) (Some rest) is (behind-append line rest)))

  pub hear-none : (cat : C) (item : I) (said : List ℕ) → behind (p.answer cat item).0 said ≡ None → behind_stand_in (p.stand_in item) said ≡ None → hear p cat item said ≡ None
  hear-none cat item said no_reply no_stand_in = rw (no_reply, no_stand_in) refl

  pub heard-some : (cat : C) (item : I) (items : List I) (said : List ℕ) (next : C) (rest : List ℕ) → hear p cat item said ≡ Some (next, rest) → heard p cat (item ∷ items) said ≡ one_more (heard p next items rest)
  heard-some cat item items said next rest e = rw (e, heard) refl

  pub heard-none : (cat : C) (item : I) (items : List I) (said : List ℕ) → hear p cat item said ≡ None → heard p cat (item ∷ items) said ≡ record { count = 0; catalogue = cat; waiting = item ∷ items; rest = said }
  heard-none cat item items said e = rw (e, heard) refl

  pub heard-nothing : (cat : C) (items : List I) → heard p cat items [] ≡ record { count = 0; catalogue = cat; waiting = items; rest = [] }
  heard-nothing cat [] = refl
  heard-nothing cat (item ∷ items) = heard-none cat item items [] (hear-none cat item [] (nothing-heard cat item) (stand_in-front cat item [] ((p.answer cat item).0, refl)))

  -- the replies so far are whole: this many, this catalogue, and these items wait
  abbrev pub Whole : C → List I → List ℕ → ℕ → C → List I → Type 0
  Whole cat items said n next waiting = heard p cat items said ≡ record { count = n; catalogue = next; waiting = waiting; rest = [] }

  abbrev pub more_heard : ℕ → Heard C I → Heard C I
  more_heard n h = record h { count = n + h.count }

  stands : (h : Heard C I) (n : ℕ) (cat : C) (items : List I) (said more : List ℕ) (next : C) (waiting : List I) →
      h ≡ record { count = 0; catalogue = cat; waiting = items; rest = said } → h ≡ record { count = n; catalogue = next; waiting = waiting; rest = [] } →
      heard p cat items (said ++ more) ≡ more_heard n (heard p next waiting more)
  stands h n cat items said more next waiting is whole =
      let both : record { count = 0; catalogue = cat; waiting = items; rest = said } ≡ record { count = n; catalogue = next; waiting = waiting; rest = [] } = sym is ∙ whole in
      let en : n ≡ 0 = sym (ap (λ (x : Heard C I). x.count) both) in
      let ec : next ≡ cat = sym (ap (λ (x : Heard C I). x.catalogue) both) in
      let ew : waiting ≡ items = sym (ap (λ (x : Heard C I). x.waiting) both) in
      let es : said ≡ [] = ap (λ (x : Heard C I). x.rest) both in
      rw (en, ec, ew, es) (let e = sym (zero-add (heard p cat items more).count) in λ j. record { count = e j; catalogue = (heard p cat items more).catalogue; waiting = (heard p cat items more).waiting; rest = (heard p cat items more).rest })

  abbrev Appends : List I → Type 0
  Appends items = (cat : C) (said more : List ℕ) (n : ℕ) (next : C) (waiting : List I) → Whole cat items said n next waiting → heard p cat items (said ++ more) ≡ more_heard n (heard p next waiting more)

  append_step : (item : I) (items : List I) → Appends items → Appends (item ∷ items)
  append_step item items induction cat said more n next waiting whole = by_reply (behind (p.answer cat item).0 said) refl where
    step : (cat1 : C) (rest : List ℕ) → hear p cat item said ≡ Some (cat1, rest) → hear p cat item (said ++ more) ≡ Some (cat1, rest ++ more) →
        heard p cat (item ∷ items) (said ++ more) ≡ more_heard n (heard p next waiting more)
    step cat1 rest now later =
        let h : Heard C I = heard p cat1 items rest in
        let is : one_more h ≡ record { count = n; catalogue = next; waiting = waiting; rest = [] } = sym (heard-some cat item items said cat1 rest now) ∙ whole in
        let h_whole : Whole cat1 items rest h.count next waiting = λ j. record { count = h.count; catalogue = (is j).catalogue; waiting = (is j).waiting; rest = (is j).rest } in
        let en : (k : ℕ) → h.count + k + 1 ≡ n + k = λ k. omega (arith, ap (λ (x : Heard C I). x.count) is) in
        let go = induction cat1 rest more h.count next waiting h_whole in
        let last : Heard C I = heard p next waiting more in
        heard-some cat item items (said ++ more) cat1 (rest ++ more) later ∙ ap one_more go ∙ (λ j. record last { count = en last.count j })

    by_stand_in : behind (p.answer cat item).0 said ≡ None → (stand_in : Option (List ℕ)) → p.stand_in item ≡ stand_in → (o : Option (List ℕ)) → behind_stand_in stand_in said ≡ o → heard p cat (item ∷ items) (said ++ more) ≡ more_heard n (heard p next waiting more)
    by_stand_in none (Some line) t (Some rest) e =
        let is : said ≡ line ++ rest = behind-is line said rest e in
        step cat rest (ap (hear p cat item) is ∙ hear-stand_in cat item line rest t)
        (ap (λ (l : List ℕ). hear p cat item (l ++ more)) is ∙ ap (hear p cat item) (append_assoc line rest more) ∙ hear-stand_in cat item line (rest ++ more) t)
    by_stand_in none (Some line) t None e = stands (heard p cat (item ∷ items) said) n cat (item ∷ items) said more next waiting (heard-none cat item items said (hear-none cat item said none (stand_in-is item (Some line) said None t e))) whole
    by_stand_in none None t o e = stands (heard p cat (item ∷ items) said) n cat (item ∷ items) said more next waiting (heard-none cat item items said (hear-none cat item said none (stand_in-is item None said None t refl))) whole

    by_reply : (o : Option (List ℕ)) → behind (p.answer cat item).0 said ≡ o → heard p cat (item ∷ items) (said ++ more) ≡ more_heard n (heard p next waiting more)
    by_reply (Some rest) e = step (p.answer cat item).1 rest (hear-reply cat item said rest e) (hear-reply cat item (said ++ more) (rest ++ more) (behind-more (p.answer cat item).0 said rest more e))
    by_reply None e = by_stand_in e (p.stand_in item) refl (behind_stand_in (p.stand_in item) said) refl

  -- More is heard from where it stood.
  pub heard-append : (items : List I) → Appends items
  heard-append [] cat said more n next waiting whole = stands (heard p cat [] said) n cat [] said more next waiting refl whole
  heard-append (item ∷ items) cat said more n next waiting whole = append_step item items (heard-append items) cat said more n next waiting whole

  -- a whole reply more
  pub whole_reply : (cat : C) (items : List I) (said : List ℕ) (n : ℕ) (next : C) (item : I) (waiting : List I) → Whole cat items said n next (item ∷ waiting) → Whole cat items (said ++ (p.answer next item).0) (n + 1) (p.answer next item).1 waiting
  whole_reply cat items said n next item waiting whole =
      let all : behind (p.answer next item).0 (p.answer next item).0 ≡ Some [] = ap (behind (p.answer next item).0) (sym (append-nil (p.answer next item).0)) ∙ behind-append (p.answer next item).0 [] in
      let one = heard-some next item waiting (p.answer next item).0 (p.answer next item).1 [] (hear-reply next item (p.answer next item).0 [] all) ∙ ap one_more (heard-nothing (p.answer next item).1 waiting) in
      heard-append items cat said (p.answer next item).0 n next (item ∷ waiting) whole ∙ ap (more_heard n) one

  pub whole_stand_in : (cat : C) (items : List I) (said : List ℕ) (n : ℕ) (next : C) (item : I) (waiting : List I) (line : List ℕ) → p.stand_in item ≡ Some line → Whole cat items said n next (item ∷ waiting) → Whole cat items (said ++ line) (n + 1) next waiting
  whole_stand_in cat items said n next item waiting line is whole =
      let one = heard-some next item waiting line next [] (ap (hear p next item) (sym (append-nil line)) ∙ hear-stand_in next item line [] is) ∙ ap one_more (heard-nothing next waiting) in
      heard-append items cat said line n next (item ∷ waiting) whole ∙ ap (more_heard n) one

  -- an image that keeps the catalogue
  pub kept_now : (keeps : C → Type 0) (cat : C) (waiting : List I) → keeps cat → IsNowOrNext p keeps cat waiting
  kept_now keeps cat [] k = k
  kept_now keeps cat (item ∷ waiting) k = inl k

  -- nothing said can follow
  pub empty_follows : (cat : C) (items : List I) → CanFollow p cat items []
  empty_follows cat [] = refl
  empty_follows cat (item ∷ items) = inl ((p.answer cat item).0, refl)

  module _ (keeps : C → Type 0) where
    -- where the replies are whole
    pub good_between : (cat : C) (items : List I) (said : List ℕ) (n : ℕ) (next : C) (waiting : List I) → Whole cat items said n next waiting → IsNowOrNext p keeps next waiting → IsGood p keeps cat items said
    good_between cat items said n next waiting whole kept = record {
      fair = rw whole (empty_follows next waiting);
      kept = rw whole kept;
    }

    part_good : (cat : C) (items : List I) (said q : List ℕ) (n : ℕ) (next : C) (item : I) (waiting : List I) → Whole cat items said n next (item ∷ waiting) → behind (p.answer next item).0 q ≡ None → behind_stand_in (p.stand_in item) q ≡ None →
        CanFollow p next (item ∷ waiting) q → IsNowOrNext p keeps next (item ∷ waiting) → IsGood p keeps cat items (said ++ q)
    part_good cat items said q n next item waiting whole no_reply no_stand_in follows kept =
        let is : heard p cat items (said ++ q) ≡ record { count = n + 0; catalogue = next; waiting = item ∷ waiting; rest = q } =
        heard-append items cat said q n next (item ∷ waiting) whole ∙ ap (more_heard n) (heard-none next item waiting q (hear-none next item q no_reply no_stand_in)) in
        record { fair = rw is follows; kept = rw is kept }

    -- while a reply is said
    pub good_reply : (cat : C) (items : List I) (said q : List ℕ) (n : ℕ) (next : C) (item : I) (waiting : List I) → Whole cat items said n next (item ∷ waiting) → IsFront q (p.answer next item).0 → keeps (p.answer next item).1 → IsGood p keeps cat items (said ++ q)
    good_reply cat items said q n next item waiting whole front here = elim (whole_or_part q (p.answer next item).0 front) [
      | inl all ↦ rw all (good_between cat items (said ++ (p.answer next item).0) (n + 1) (p.answer next item).1 waiting (whole_reply cat items said n next item waiting whole) (kept_now keeps (p.answer next item).1 waiting here))
      | inr part ↦ part_good cat items said q n next item waiting whole part (stand_in-front next item q front) (inl front) (inr here)
    ]

    pub good_stand_in : (cat : C) (items : List I) (said q : List ℕ) (n : ℕ) (next : C) (item : I) (waiting : List I) (line : List ℕ) → p.stand_in item ≡ Some line → Whole cat items said n next (item ∷ waiting) → IsFront q line → keeps next → IsGood p keeps cat items (said ++ q)
    good_stand_in cat items said q n next item waiting line is whole front here = elim (whole_or_part q line front) [
      | inl all ↦ rw all (good_between cat items (said ++ line) (n + 1) next waiting (whole_stand_in cat items said n next item waiting line is whole) (kept_now keeps next waiting here))
      | inr part ↦ part_good cat items said q n next item waiting whole (reply-front next item line q is front) (stand_in-is item (Some line) q None is part) (inr (line, is, front)) (inl here)
    ]

  -- more items come
  items_step : (cat : C) (items more : List I) (said : List ℕ) → CanFollow p (heard p cat items said).catalogue (heard p cat items said).waiting (heard p cat items said).rest →
      heard p cat (items ++ more) said ≡ (let h = heard p cat items said in record h { waiting = h.waiting ++ more })
  items_step cat [] more said follows = ap (heard p cat more) follows ∙ heard-nothing cat more ∙ (λ j. record { count = 0; catalogue = cat; waiting = more; rest = sym follows j })
  items_step cat (item ∷ items) more said follows = go (hear p cat item said) refl (λ cat1 rest. items_step cat1 items more rest) where
    go : (o : Option (C × List ℕ)) → hear p cat item said ≡ o → ((cat1 : C) (rest : List ℕ) → CanFollow p (heard p cat1 items rest).catalogue (heard p cat1 items rest).waiting (heard p cat1 items rest).rest →
        heard p cat1 (items ++ more) rest ≡ (let h = heard p cat1 items rest in record h { waiting = h.waiting ++ more })) →
        heard p cat (item ∷ (items ++ more)) said ≡ (let h = heard p cat (item ∷ items) said in record h { waiting = h.waiting ++ more })
    go (Some (cat1, rest)) e induction =
        let is = heard-some cat item items said cat1 rest e in
        heard-some cat item (items ++ more) said cat1 rest e ∙ ap one_more (induction cat1 rest (rw is at follows)) ∙ (let b = sym is in λ j. record (b j) { waiting = (b j).waiting ++ more })
    go None e induction =
        let b = sym (heard-none cat item items said e) in
        heard-none cat item (items ++ more) said e ∙ (λ j. record (b j) { waiting = (b j).waiting ++ more })

  follows_more : (cat : C) (waiting more : List I) (rest : List ℕ) → CanFollow p cat waiting rest → CanFollow p cat (waiting ++ more) rest
  follows_more cat [] more rest e = rw e (empty_follows cat more)
  follows_more cat (item ∷ waiting) more rest f = f

  kept_more : (keeps : C → Type 0) (cat : C) (waiting more : List I) → IsNowOrNext p keeps cat waiting → IsNowOrNext p keeps cat (waiting ++ more)
  kept_more keeps cat [] more k = kept_now keeps cat more k
  kept_more keeps cat (item ∷ waiting) more k = k

  pub good_more : (keeps : C → Type 0) (cat : C) (items more : List I) (said : List ℕ) → IsGood p keeps cat items said → IsGood p keeps cat (items ++ more) said
  good_more keeps cat items more said good =
      let h : Heard C I = heard p cat items said in
      let is = items_step cat items more said good.fair in
      record { fair = rw is (follows_more h.catalogue h.waiting more h.rest good.fair); kept = rw is (kept_more keeps h.catalogue h.waiting more good.kept) }

  pub fair_more : (cat : C) (items more : List I) (said : List ℕ) → IsFair p cat items said → IsFair p cat (items ++ more) said
  fair_more cat items more said fair =
      let h : Heard C I = heard p cat items said in
      rw (items_step cat items more said fair) (follows_more h.catalogue h.waiting more h.rest fair)

  -- Where all of the first items have their replies, the others are heard from there.
  pub heard_then : (cat : C) (items others : List I) (said more : List ℕ) (n : ℕ) (next : C) → Whole cat items said n next [] → heard p cat (items ++ others) (said ++ more) ≡ more_heard n (heard p next others more)
  heard_then cat items others said more n next whole =
      let follows : CanFollow p (heard p cat items said).catalogue (heard p cat items said).waiting (heard p cat items said).rest = rw whole refl in
      let all : Whole cat (items ++ others) said n next others = items_step cat items others said follows ∙ (λ j. record (whole j) { waiting = (whole j).waiting ++ others }) in
      heard-append (items ++ others) cat said more n next others all

  pub fair_then : (cat : C) (items others : List I) (said more : List ℕ) (n : ℕ) (next : C) → Whole cat items said n next [] → IsFair p next others more → IsFair p cat (items ++ others) (said ++ more)
  fair_then cat items others said more n next whole fair = rw (heard_then cat items others said more n next whole) fair

  pub good_then : (keeps : C → Type 0) (cat : C) (items others : List I) (said more : List ℕ) (n : ℕ) (next : C) → Whole cat items said n next [] → IsGood p keeps next others more → IsGood p keeps cat (items ++ others) (said ++ more)
  good_then keeps cat items others said more n next whole good = record {
    fair = rw (heard_then cat items others said more n next whole) good.fair;
    kept = rw (heard_then cat items others said more n next whole) good.kept;
  }
