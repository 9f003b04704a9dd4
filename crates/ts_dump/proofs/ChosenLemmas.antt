-- What is chosen by slots is what is wished of the catalogue, and its script makes that.
use Rattle.std.proofs.Common.{◌≡◌, ℕ, Bool, true, false, Option, Some, None, List, ◌++◌, refl, ap, sym, ◌∙◌, subst, append-nil}
use Rattle.std.specs.Option.{option_map}
use Rattle.std.specs.FinMap.{get}
use Rattle.ts_model.specs.declared.kind.Kind.TheVariants as kinds
use Rattle.ts_model.specs.Catalogue.{Series, Catalogue, in_newest_format}
use Rattle.ts_model.specs.Definitions.{Definitions, slot_of, slots}
use Rattle.ts_layout.specs.Meaning.{Layout, IsSound, series_of, catalogue_of}
use Rattle.ts_layout.proofs.CallerLemmas.{name_found, no_name_found}
use Rattle.ts_volume.specs.Volume.{MeansCatalogue}
use Rattle.ts_dump_texts.specs.Script.{script_of}
use Rattle.ts_dump_texts.specs.OfCatalogue.{texts_of}
use Rattle.ts_dump_laws.specs.Statements.{without_elements}
use Rattle.ts_dump_laws.specs.Alone.{alone}
use Rattle.ts_dump_laws.specs.Said.{IsMadeByScripts, Makes, ScriptsMakeSeries, ScriptsMakeVolumes}
use Rattle.ts_dump_laws.proofs.WishLemmas.{bare_texts}
use Rattle.ts_dump.specs.declared.wish.Part.{Part}
use Rattle.ts_dump.specs.declared.wish.Part.TheVariants as parts
use Rattle.ts_dump.specs.declared.choice.Choice.{Choice}
use Rattle.ts_dump.specs.declared.choice.Choice.TheVariants.{All, DefinitionsAlone, Series as OneSeries}
use Rattle.ts_dump.specs.Listed.{definition_texts}
use Rattle.ts_dump.specs.Chosen.{chosen, chosen_texts}
use Rattle.ts_dump.specs.Dumped.{wished, grouped, script_for, IsOfSeries}
use Rattle.ts_dump.proofs.ListedLemmas.{texts_of_all, whole_texts}
use Rattle.ts_dump.proofs.AloneLemmas.{alone_texts}

-- what is wished is there, and its texts are those that are chosen
pub record IsThere (l : Layout) (part : Part) (choice : Choice) : Type 0 where
  pub made : Catalogue
  pub is : wished part (catalogue_of l) ≡ Some made
  pub texts : chosen_texts l choice ≡ texts_of made

module _ (l : Layout) (sound : IsSound l) where
  series_there : (key : List ℕ) (slot : ℕ) → slot_of key (slots kinds.Series l.definitions) ≡ Some slot
      → (s : Series) × (get (catalogue_of l).series key ≡ Some s) × (chosen_texts l (OneSeries slot) ≡ texts_of (alone key s (catalogue_of l)))
  series_there key slot is =
      let found = name_found kinds.Series l key slot sound is in
      let s = series_of l slot found.0 in (
        s,
        found.1.listed,
        alone_texts l sound slot found.0 found.1.there ∙ ap (λ (k : List ℕ). texts_of (alone k s (catalogue_of l))) found.1.its_name,
      )

  pub part_there : (part : Part) (choice : Choice) → chosen l.definitions part ≡ Some choice → IsThere l part choice
  part_there parts.All choice is =
      let same : All ≡ choice = cc in
      subst (IsThere l parts.All) same (record { made = catalogue_of l; is = refl; texts = whole_texts l })
  part_there parts.DefinitionsAlone choice is =
      let same : DefinitionsAlone ≡ choice = cc in
      subst (IsThere l parts.DefinitionsAlone) same (record {
        made = without_elements (catalogue_of l);
        is = refl;
        texts = append-nil (definition_texts l.definitions) ∙ texts_of_all l ∙ sym (bare_texts (catalogue_of l));
      })
  part_there (parts.Series key) choice is = by (slot_of key.now (slots kinds.Series l.definitions)) refl
    where
      by : (o : Option ℕ) → slot_of key.now (slots kinds.Series l.definitions) ≡ o → IsThere l (parts.Series key) choice
      by None at = absurd (let no : None ≡ Some choice = sym (ap (option_map (λ (slot : ℕ). OneSeries slot)) at) ∙ is in cc)
      by (Some slot) at =
          let one : Some (OneSeries slot) ≡ Some choice = sym (ap (option_map (λ (slot : ℕ). OneSeries slot)) at) ∙ is in
          let same : OneSeries slot ≡ choice = cc in
          let found = series_there key.now slot at in
          subst (IsThere l (parts.Series key)) same (record {
            made = alone key.now found.0 (catalogue_of l);
            is = ap (option_map (λ (s : Series). alone key.now s (catalogue_of l))) found.1;
            texts = found.2;
          })

-- where no slot is chosen it isn't there, and a series was wished
pub part_missing : (l : Layout) (part : Part) → chosen l.definitions part ≡ None → wished part (catalogue_of l) ≡ None
part_missing l parts.All none = absurd (let no : ⊥ = cc in no)
part_missing l parts.DefinitionsAlone none = absurd (let no : ⊥ = cc in no)
part_missing l (parts.Series key) none = by (slot_of key.now (slots kinds.Series l.definitions)) refl
  where
    by : (o : Option ℕ) → slot_of key.now (slots kinds.Series l.definitions) ≡ o → wished (parts.Series key) (catalogue_of l) ≡ None
    by None at = ap (option_map (λ (s : Series). alone key.now s (catalogue_of l))) (no_name_found kinds.Series l key.now at)
    by (Some slot) at = absurd (let no : Some (OneSeries slot) ≡ None = sym (ap (option_map (λ (slot : ℕ). OneSeries slot)) at) ∙ none in cc)

pub series_wished : (d : Definitions) (part : Part) → chosen d part ≡ None → IsOfSeries part
series_wished d parts.All none = absurd (let no : ⊥ = cc in no)
series_wished d parts.DefinitionsAlone none = absurd (let no : ⊥ = cc in no)
series_wished d (parts.Series key) none = tt

-- its script makes it, also in transactions
made_by : (in_transactions : Bool) (cat : Catalogue) → IsMadeByScripts cat → Makes (script_for in_transactions cat) cat.pages (in_newest_format cat)
made_by false cat made = made.all
made_by true cat made = made.in_transactions

bare_made : (in_transactions : Bool) (cat : Catalogue) → IsMadeByScripts cat → Makes (script_for in_transactions (without_elements cat)) cat.pages (in_newest_format (without_elements cat))
bare_made false cat made = subst (λ (texts : List (List ℕ)). Makes (script_of texts) cat.pages (in_newest_format (without_elements cat))) (sym (bare_texts cat)) made.definitions
bare_made true cat made = subst (λ (texts : List (List ℕ)). Makes (script_of (grouped true texts)) cat.pages (in_newest_format (without_elements cat))) (sym (bare_texts cat)) made.definitions_in_transactions

module _ (volumes : ScriptsMakeVolumes) (series : ScriptsMakeSeries) (bytes : List ℕ) (cat : Catalogue) (means : MeansCatalogue bytes cat) (in_transactions : Bool) where
  pub makes_wished : (part : Part) (made : Catalogue) → wished part cat ≡ Some made → Makes (script_for in_transactions made) cat.pages (in_newest_format made)
  makes_wished parts.All made is =
      let same : cat ≡ made = cc in
      subst (λ (c : Catalogue). Makes (script_for in_transactions c) cat.pages (in_newest_format c)) same (made_by in_transactions cat (volumes bytes cat means))
  makes_wished parts.DefinitionsAlone made is =
      let same : without_elements cat ≡ made = cc in
      subst (λ (c : Catalogue). Makes (script_for in_transactions c) cat.pages (in_newest_format c)) same (bare_made in_transactions cat (volumes bytes cat means))
  makes_wished (parts.Series key) made is = by (get cat.series key.now) refl
    where
      by : (o : Option Series) → get cat.series key.now ≡ o → Makes (script_for in_transactions made) cat.pages (in_newest_format made)
      by None at = absurd (let no : None ≡ Some made = sym (ap (option_map (λ (s : Series). alone key.now s cat)) at) ∙ is in cc)
      by (Some s) at =
          let one : Some (alone key.now s cat) ≡ Some made = sym (ap (option_map (λ (s : Series). alone key.now s cat)) at) ∙ is in
          let same : alone key.now s cat ≡ made = cc in
          subst (λ (c : Catalogue). Makes (script_for in_transactions c) cat.pages (in_newest_format c)) same
          (made_by in_transactions (alone key.now s cat) (series bytes cat key.now s means at))
