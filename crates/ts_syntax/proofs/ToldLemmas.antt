-- Mistakes that are told, one part behind another.
use Rattle.std.proofs.Common.{◌≡◌, ℕ, ◌≤◌, Bool, true, false, ◌||◌, IsTrue, List, [], ◌∷◌, ◌++◌, take, drop, Result, Ok, Err, OnOk, refl, sym, ◌∙◌, ap, subst, arith, append_assoc, take-append-drop}
use Rattle.std.proofs.lemmas.List.{append-nil}
use Rattle.ts_disk.specs.Device.{Rose}
use Rattle.ts_syntax.specs.Mistakes.{Mistake}
use Rattle.ts_syntax.specs.Output.{Heard, Spoken}
use Rattle.ts_syntax.specs.Lines.{IsLine, Tells, SaysAll, SaysFirst, place_text}
use Rattle.ts_syntax.specs.Reading.{Told, are_some}
use Rattle.ts_syntax.specs.declared.checker.CheckFault.{CheckFault}
use Rattle.ts_syntax.specs.declared.checker.CheckFault.TheVariants.{Output, Memory}

-- there are lines of any mistakes
pub some_lines : (mistakes : List Mistake) → (said : List ℕ) × Tells mistakes said
some_lines [] = ([], refl)
some_lines (m ∷ mistakes) =
    let others = some_lines mistakes in
    let line : List ℕ = place_text m ++ ([] ++ 10 ∷ []) in
    (line ++ others.0, (line, others.0, refl, ([], refl, refl), others.1))

pub tells-append : (mistakes others : List Mistake) (said more : List ℕ) → Tells mistakes said → Tells others more → Tells (mistakes ++ others) (said ++ more)
tells-append [] others said more none next = subst (Tells others) (sym (ap (λ (l : List ℕ). l ++ more) none)) next
tells-append (m ∷ mistakes) others said more first next =
    (first.0, first.1 ++ more, ap (λ (l : List ℕ). l ++ more) first.2 ∙ append_assoc first.0 first.1 more, first.3, tells-append mistakes others first.1 more first.4 next)

-- nothing is the first of any lines
pub first_none : (mistakes : List Mistake) (said : List ℕ) → SaysFirst mistakes said said
first_none mistakes said = let lines = some_lines mistakes in ([], lines.0, sym (append-nil said), lines.1)

-- the first lines of some mistakes are those of more
pub first_more : (mistakes others : List Mistake) (before said : List ℕ) → SaysFirst mistakes before said → SaysFirst (mistakes ++ others) before said
first_more mistakes others before said first =
    let lines = some_lines others in
    (first.0, first.1 ++ lines.0, first.2, subst (Tells (mistakes ++ others)) (append_assoc first.0 first.1 lines.0) (tells-append mistakes others (first.0 ++ first.1) lines.0 first.3 lines.1))

pub all_first : (mistakes : List Mistake) (before said : List ℕ) → SaysAll mistakes before said → SaysFirst mistakes before said
all_first mistakes before said all = (all.0, [], all.1, subst (Tells mistakes) (sym (append-nil all.0)) all.2)

-- more behind all
pub all_then : (mistakes others : List Mistake) (before middle said : List ℕ) → SaysAll mistakes before middle → SaysAll others middle said → SaysAll (mistakes ++ others) before said
all_then mistakes others before middle said all next =
    (all.0 ++ next.0, next.1 ∙ ap (λ (l : List ℕ). l ++ next.0) all.1 ∙ append_assoc before all.0 next.0, tells-append mistakes others all.0 next.0 all.2 next.2)

pub first_then : (mistakes others : List Mistake) (before middle said : List ℕ) → SaysAll mistakes before middle → SaysFirst others middle said → SaysFirst (mistakes ++ others) before said
first_then mistakes others before middle said all next = (
  all.0 ++ next.0,
  next.1,
  next.2 ∙ ap (λ (l : List ℕ). l ++ next.0) all.1 ∙ append_assoc before all.0 next.0,
  subst (Tells (mistakes ++ others)) (sym (append_assoc all.0 next.0 next.1)) (tells-append mistakes others all.0 (next.0 ++ next.1) all.2 next.3),
)

some_of_two : (f : Bool) (mistakes others : List Mistake) → ((f || are_some mistakes) || are_some others) ≡ (f || are_some (mistakes ++ others))
some_of_two true mistakes others = refl
some_of_two false [] others = refl
some_of_two false (m ∷ mistakes) others = refl

-- of an outcome
on_ok : {T : Type 0} (r : Result T CheckFault) (P Q : Type 0) → (P → Q) → OnOk r P → OnOk r Q
on_ok (Ok value) P Q f p = f p
on_ok (Err fault) P Q f p = tt

rose_on : (a b c : ℕ) → a ≤ b → Rose b c → Rose a c
rose_on a b c le rose = omega arith

-- nothing to tell
pub told_none : {T : Type 0} (tells : Bool) (value : T) (f : Bool) (v : Heard) → Told tells [] (Ok value) f f v v
told_none tells value f v = record {
  all = λ told. ([], sym (append-nil v.said), refl);
  first = λ told. first_none [] v.said;
  found = go f;
  output = λ is. absurd (cc);
  no_fault = λ no. refl;
  say_faults = omega arith;
} where
  go : (f : Bool) → f ≡ (f || are_some [])
  go true = refl
  go false = refl

-- no memory to tell it
pub told_wanting : {T : Type 0} (tells : Bool) (mistakes : List Mistake) (f g : Bool) (v : Heard) → Told {T = T} tells mistakes (Err Memory) f g v v
told_wanting {T} tells mistakes f g v = record {
  all = tt;
  first = λ told. first_none mistakes v.said;
  found = tt;
  output = λ is. absurd (let no : Memory ≡ Output = cc in cc);
  no_fault = λ no. refl;
  say_faults = omega arith;
}

-- the same with another value
pub told_as : {T U : Type 0} (tells : Bool) (mistakes : List Mistake) (value : T) (other : U) (f g : Bool) (v w : Heard) → Told tells mistakes (Ok value) f g v w → Told tells mistakes (Ok other) f g v w
told_as tells mistakes value other f g v w told = record {
  all = told.all;
  first = told.first;
  found = told.found;
  output = λ is. absurd (cc);
  no_fault = λ no. told.no_fault (λ is. absurd (cc));
  say_faults = told.say_faults;
}

same_fault : {T U : Type 0} (a b : CheckFault) → ◌≡◌ {A = Result U CheckFault} (Err a) (Err b) → ◌≡◌ {A = Result T CheckFault} (Err a) (Err b)
same_fault a b is = let e : a ≡ b = cc in ap Err e

-- the same that failed, with more that was not told
pub told_failed : {T U : Type 0} (tells : Bool) (mistakes others : List Mistake) (fault : CheckFault) (f g x h : Bool) (v w : Heard) → Told {T = T} tells mistakes (Err fault) f g v w → Told {T = U} tells (mistakes ++ others) (Err fault) x h v w
told_failed {T} {U} tells mistakes others fault f g x h v w told = record {
  all = tt;
  first = λ yes. first_more mistakes others v.said w.said (told.first yes);
  found = tt;
  output = λ is. told.output (same_fault {T = T} {U = U} fault Output is);
  no_fault = λ no. told.no_fault (λ is. no (same_fault {T = U} {U = T} fault Output is));
  say_faults = told.say_faults;
}

-- mistakes that are named otherwise
pub told_of : {T : Type 0} (tells : Bool) (mistakes others : List Mistake) (r : Result T CheckFault) (f g : Bool) (v w : Heard) → mistakes ≡ others → Told tells mistakes r f g v w → Told tells others r f g v w
told_of tells mistakes others r f g v w same told = subst (λ (l : List Mistake). Told tells l r f g v w) same told

-- mistakes behind mistakes
pub told_then : {T U : Type 0} (tells : Bool) (mistakes others : List Mistake) (value : T) (r : Result U CheckFault) (f g h : Bool) (v x w : Heard) → Told tells mistakes (Ok value) f g v x → Told tells others r g h x w → Told tells (mistakes ++ others) r f h v w
told_then {T} {U} tells mistakes others value r f g h v x w told next =
    let still : x.say_faults ≡ v.say_faults = told.no_fault (λ is. absurd (cc)) in record {
      all = on_ok r (IsTrue tells → SaysAll others x.said w.said) (IsTrue tells → SaysAll (mistakes ++ others) v.said w.said) (λ all yes. all_then mistakes others v.said x.said w.said (told.all yes) (all yes)) next.all;
      first = λ yes. first_then mistakes others v.said x.said w.said (told.all yes) (next.first yes);
      found = on_ok r (h ≡ (g || are_some others)) (h ≡ (f || are_some (mistakes ++ others))) (λ is. is ∙ ap (λ b. b || are_some others) told.found ∙ some_of_two f mistakes others) next.found;
      output = λ is. rose_on v.say_faults x.say_faults w.say_faults told.say_faults (next.output is);
      no_fault = λ no. next.no_fault no ∙ still;
      say_faults = omega (arith, told.say_faults, next.say_faults);
    }

one_line : (m : Mistake) (line : List ℕ) → IsLine m line → Tells (m ∷ []) line
one_line m line is = (line, [], sym (append-nil line), is, refl)

some_found : (f : Bool) (m : Mistake) → true ≡ (f || are_some (m ∷ []))
some_found true m = refl
some_found false m = refl

-- one mistake, whose line is said
pub told_one : {E : Type 0} (tells : Bool) (m : Mistake) (line : List ℕ) (u : Unit {0}) (f : Bool) (v w : Heard) → IsLine m line → Spoken {E = E} tells line (Ok u) v w → Told {T = Unit {0}} tells (m ∷ []) (Ok (tt {0})) f true v w
told_one tells m line u f v w is spoken = record {
  all = λ yes. (line, spoken.said yes, one_line m line is);
  first = λ yes. all_first (m ∷ []) v.said w.said (line, spoken.said yes, one_line m line is);
  found = some_found f m;
  output = λ no. absurd (cc);
  no_fault = λ no. spoken.no_fault refl;
  say_faults = spoken.say_faults;
}

-- one mistake, whose line isn't said whole
pub told_part : {E : Type 0} (tells : Bool) (m : Mistake) (line : List ℕ) (e : E) (f g : Bool) (v w : Heard) → IsLine m line → Spoken {E = E} tells line (Err e) v w → Told {T = Unit {0}} tells (m ∷ []) (Err Output) f g v w
told_part tells m line e f g v w is spoken = record {
  all = tt;
  first = λ yes. let part = spoken.part yes in (take part.0 line, drop part.0 line, part.1, subst (Tells (m ∷ [])) (sym (take-append-drop part.0 line)) (one_line m line is));
  found = tt;
  output = λ no. spoken.cause refl;
  no_fault = λ no. absurd (no refl);
  say_faults = spoken.say_faults;
}

-- the same that failed, of another value
pub told_fault : {T U : Type 0} (tells : Bool) (mistakes : List Mistake) (fault : CheckFault) (f g : Bool) (v w : Heard) → Told {T = T} tells mistakes (Err fault) f g v w → Told {T = U} tells mistakes (Err fault) f g v w
told_fault {T} {U} tells mistakes fault f g v w told = record {
  all = tt;
  first = told.first;
  found = tt;
  output = λ is. told.output (same_fault {T = T} {U = U} fault Output is);
  no_fault = λ no. told.no_fault (λ is. no (same_fault {T = U} {U = T} fault Output is));
  say_faults = told.say_faults;
}
