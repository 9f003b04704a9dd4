-- What reading and saying leave, one behind the other.
use Rattle.std.proofs.Common.{◌≡◌, ℕ, suc, zero, ◌+◌, ◌<◌, get_or, drop, Bool, IsTrue, Result, Ok, Err, List, [], ◌∷◌, ◌++◌, take, length, refl, ap, sym, ◌∙◌, subst, arith, append_assoc, append-nil}
use Rattle.std.specs.List.{flat_map}
use Rattle.std.specs.Result.{IsErrAnd, OnOk}
use Rattle.ts_disk.specs.Device.{Device, Rose, Says, Saying}
use Rattle.ts_journal.specs.Moment.{OnlyReads}
use Rattle.ts_dump.specs.declared.ended.Fault.{Fault}
use Rattle.ts_dump.specs.declared.ended.Fault.TheVariants.{Output, Volume, Memory}
use Rattle.std.proofs.lemmas.List.{take-append-drop}
use Rattle.std.proofs.lemmas.List.Concat.{flat_map-append}
use Rattle.ts_dump.specs.Saying.{Stays, Caused, SaysText}
use Rattle.ts_dump.specs.declared.grouping.Grouping.{Grouping}
use Rattle.ts_dump.specs.Grouping.{behind}
use Rattle.ts_dump.specs.Placed.{lines_from, lines_both, ArePut, none_put, both_put, SaysTexts}

pub stays_none : (v : Device) → Stays v v
stays_none v = record {
  held = refl;
  size = refl;
  no_more = λ image now. now;
  no_fewer = λ image now. now;
  faults = omega arith;
  say_faults = omega arith;
}

pub stays_then : (v x w : Device) → Stays v x → Stays x w → Stays v w
stays_then v x w p q = record {
  held = q.held ∙ p.held;
  size = q.size ∙ p.size;
  no_more = λ image now. p.no_more image (q.no_more image now);
  no_fewer = λ image now. q.no_fewer image (p.no_fewer image now);
  faults = omega (arith, p.faults, q.faults);
  say_faults = omega (arith, p.say_faults, q.say_faults);
}

pub stays_read : (tells : Bool) (v w : Device) → OnlyReads tells v w → Stays v w
stays_read tells v w reads = record {
  held = reads.held;
  size = reads.keeps.size;
  no_more = reads.images;
  no_fewer = reads.no_fewer;
  faults = reads.keeps.faults;
  say_faults = omega (arith, reads.keeps.say_faults);
}

pub stays_said : {E : Type 0} (tells : Bool) (piece : List ℕ) (r : Result Unit E) (v w : Device) → Says tells piece r v w → Stays v w
stays_said tells piece r v w says = record {
  held = says.held;
  size = says.size;
  no_more = says.crash;
  no_fewer = says.no_fewer;
  faults = omega (arith, says.faults);
  say_faults = says.say_faults;
}

-- why it ended so
pub caused_ok : (v w : Device) → Stays v w → w.faults ≡ v.faults → w.say_faults ≡ v.say_faults → Caused (Ok tt) v w
caused_ok v w stays quiet silent = record {
  stays = stays;
  output = λ is. absurd (cc);
  volume = λ is. absurd (cc);
  no_say_fault = λ other. silent;
  no_fault = λ other. quiet;
}

pub caused_memory : (v w : Device) → Stays v w → w.faults ≡ v.faults → w.say_faults ≡ v.say_faults → Caused (Err Memory) v w
caused_memory v w stays quiet silent = record {
  stays = stays;
  output = λ is. absurd (cc);
  volume = λ is. absurd (cc);
  no_say_fault = λ other. silent;
  no_fault = λ other. quiet;
}

pub caused_volume : (v w : Device) → Stays v w → Rose v.faults w.faults → w.say_faults ≡ v.say_faults → Caused (Err Volume) v w
caused_volume v w stays rose silent = record {
  stays = stays;
  output = λ is. absurd (cc);
  volume = λ is. rose;
  no_say_fault = λ other. silent;
  no_fault = λ other. absurd (other refl);
}

pub caused_output : (v w : Device) → Stays v w → w.faults ≡ v.faults → Rose v.say_faults w.say_faults → Caused (Err Output) v w
caused_output v w stays quiet rose = record {
  stays = stays;
  output = λ is. rose;
  volume = λ is. absurd (cc);
  no_say_fault = λ other. absurd (other refl);
  no_fault = λ other. quiet;
}

never : (fault : Fault) → ◌≡◌ {A = Result Unit Fault} (Ok tt) (Err fault) → ⊥
never fault is = cc

pub caused_none : (v : Device) → Caused (Ok tt) v v
caused_none v = caused_ok v v (stays_none v) refl refl

pub caused_then : (r : Result Unit Fault) (v x w : Device) → Caused (Ok tt) v x → Caused r x w → Caused r v w
caused_then r v x w p q =
    let silent = p.no_say_fault (never Output) in
    let quiet = p.no_fault (never Volume) in
    record {
      stays = stays_then v x w p.stays q.stays;
      output = λ is. subst (λ (n : ℕ). Rose n w.say_faults) silent (q.output is);
      volume = λ is. subst (λ (n : ℕ). Rose n w.faults) quiet (q.volume is);
      no_say_fault = λ other. q.no_say_fault other ∙ silent;
      no_fault = λ other. q.no_fault other ∙ quiet;
    }

-- a piece was said, or not whole
pub caused_said : {E : Type 0} (tells : Bool) (piece : List ℕ) (e : E) (v w : Device) → Says {E = E} tells piece (Ok tt) v w → Caused (Ok tt) v w
caused_said tells piece e v w says = caused_ok v w (stays_said tells piece (Ok tt) v w says) says.faults (says.no_fault refl)

pub caused_unsaid : {E : Type 0} (tells : Bool) (piece : List ℕ) (e : E) (v w : Device) → Says {E = E} tells piece (Err e) v w → Caused (Err Output) v w
caused_unsaid tells piece e v w says = caused_output v w (stays_said tells piece (Err e) v w says) says.faults (says.cause refl)

-- the text
pub text_said : (text : List ℕ) (v w : Device) → w.said ≡ v.said ++ text → SaysText text (Ok tt) v w
text_said text v w said = record { whole = said; part = tt }

pub text_none : (v : Device) → SaysText [] (Ok tt) v v
text_none v = text_said [] v v (sym (append-nil v.said))

pub text_unsaid : (text : List ℕ) (e : Fault) (v w : Device) → w.said ≡ v.said → SaysText text (Err e) v w
text_unsaid text e v w said = record { whole = tt; part = (0, said ∙ sym (append-nil v.said)) }

pub text_cut : (text : List ℕ) (e : Fault) (v w : Device) → Saying v.said text w.said → SaysText text (Err e) v w
text_cut text e v w part = record { whole = tt; part = part }

-- a front of what stands behind others, with them
front_behind : (a b : List ℕ) (n : ℕ) → (m : ℕ) × (take m (a ++ b) ≡ a ++ take n b)
front_behind [] b n = (n, refl)
front_behind (x ∷ a) b n = let rest = front_behind a b n in (suc rest.0, ap (λ (l : List ℕ). x ∷ l) rest.1)

-- a front of the first is one of both
front_before : (a b : List ℕ) (n : ℕ) → (m : ℕ) × (take m (a ++ b) ≡ take n a)
front_before a b zero = (zero, refl)
front_before [] b (suc n) = (zero, refl)
front_before (x ∷ a) b (suc n) = let rest = front_before a b n in (suc rest.0, ap (λ (l : List ℕ). x ∷ l) rest.1)

pub text_then : (a b : List ℕ) (r : Result Unit Fault) (v x w : Device) → SaysText a (Ok tt) v x → SaysText b r x w → SaysText (a ++ b) r v w
text_then a b (Ok done) v x w p q = record { whole = q.whole ∙ ap (λ (l : List ℕ). l ++ b) p.whole ∙ append_assoc v.said a b; part = tt }
text_then a b (Err e) v x w p q =
    let front = front_behind a b q.part.0 in
    record {
      whole = tt;
      part = (
        front.0,
        q.part.1 ∙ ap (λ (l : List ℕ). l ++ take q.part.0 b) p.whole ∙ append_assoc v.said a (take q.part.0 b)
            ∙ ap (λ (l : List ℕ). v.said ++ l) (sym front.1),
      );
    }

pub text_stop : (a b : List ℕ) (e : Fault) (v w : Device) → SaysText a (Err e) v w → SaysText (a ++ b) (Err e) v w
text_stop a b e v w p =
    let front = front_before a b p.part.0 in
    record { whole = tt; part = (front.0, p.part.1 ∙ ap (λ (l : List ℕ). v.said ++ l) (sym front.1)) }

-- the same text
pub text_same : (a b : List ℕ) (r : Result Unit Fault) (v w : Device) → a ≡ b → SaysText a r v w → SaysText b r v w
text_same a b r v w same = subst (λ (l : List ℕ). SaysText l r v w) same

-- pages were read alone
pub caused_read : (tells : Bool) (v x : Device) → OnlyReads tells v x → x.faults ≡ v.faults → Caused (Ok tt) v x
caused_read tells v x reads quiet = caused_ok v x (stays_read tells v x reads) quiet reads.keeps.say_faults

-- a piece that is the text was said behind reads
pub piece_said : {E : Type 0} (tells : Bool) (told : IsTrue tells) (text piece : List ℕ) (v x w : Device) → piece ≡ text → x.said ≡ v.said → Says {E = E} tells piece (Ok tt) x w → SaysText text (Ok tt) v w
piece_said tells told text piece v x w is before says = text_said text v w (says.said told ∙ (λ i. before i ++ is i))

pub piece_cut : {E : Type 0} (tells : Bool) (text piece : List ℕ) (e : E) (v x w : Device) → piece ≡ text → x.said ≡ v.said → Says {E = E} tells piece (Err e) x w → SaysText text (Err Output) v w
piece_cut tells text piece e v x w is before says =
    text_cut text Output v w (says.part.0, says.part.1 ∙ (λ i. before i ++ take says.part.0 (is i)))

-- the error that was handed on is this
pub text_failed : (text : List ℕ) (r : Result Unit Fault) (e : Fault) (v w : Device) → IsErrAnd r (λ x. x ≡ e) → SaysText text (Err e) v w → SaysText text r v w
text_failed text (Ok done) e v w is said = absurd is
text_failed text (Err other) e v w is said = subst (λ (x : Fault). SaysText text (Err x) v w) (sym is) said

-- The same of texts that stand in transactions.
pub texts_none : (g : Grouping) (v : Device) → SaysTexts g [] g (Ok tt) v v
texts_none g v = record { whole = none_put g v.said; part = tt }

pub texts_then : (g h k : Grouping) (xs ys : List (List ℕ)) (r : Result Unit Fault) (v x w : Device) → SaysTexts g xs h (Ok tt) v x → SaysTexts h ys k r x w → SaysTexts g (xs ++ ys) k r v w
texts_then g h k xs ys (Ok done) v x w p q = record { whole = both_put g h k xs ys v.said x.said w.said p.whole q.whole; part = tt }
texts_then g h k xs ys (Err e) v x w p q =
    let both : lines_from g xs ++ lines_from h ys ≡ lines_from g (xs ++ ys) = (λ i. lines_from g xs ++ lines_from (p.whole.stands i) ys) ∙ sym (lines_both g xs ys) in
    let cut : SaysText (lines_from h ys) (Err e) x w = record { whole = tt; part = q.part } in
    record {
      whole = tt;
      part = subst (λ (l : List ℕ). Saying v.said l w.said) both
          (text_then (lines_from g xs) (lines_from h ys) (Err e) v x w (text_said (lines_from g xs) v x p.whole.text) cut).part;
    }

pub texts_stop : (g h k : Grouping) (xs ys : List (List ℕ)) (e : Fault) (v w : Device) → SaysTexts g xs h (Err e) v w → SaysTexts g (xs ++ ys) k (Err e) v w
texts_stop g h k xs ys e v w p =
    let cut : SaysText (lines_from g xs) (Err e) v w = record { whole = tt; part = p.part } in
    record {
      whole = tt;
      part = subst (λ (l : List ℕ). Saying v.said l w.said) (sym (lines_both g xs ys))
          (text_stop (lines_from g xs) (lines_from (behind g xs) ys) e v w cut).part;
    }

pub texts_unsaid : (g k : Grouping) (texts : List (List ℕ)) (e : Fault) (v w : Device) → w.said ≡ v.said → SaysTexts g texts k (Err e) v w
texts_unsaid g k texts e v w said = record { whole = tt; part = (text_unsaid (lines_from g texts) e v w said).part }

pub texts_same : (g h : Grouping) (xs ys : List (List ℕ)) (r : Result Unit Fault) (v w : Device) → xs ≡ ys → SaysTexts g xs h r v w → SaysTexts g ys h r v w
texts_same g h xs ys r v w same = subst (λ (texts : List (List ℕ)). SaysTexts g texts h r v w) same

pub texts_failed : (g h k : Grouping) (texts : List (List ℕ)) (r : Result Unit Fault) (e : Fault) (v w : Device) → IsErrAnd r (λ x. x ≡ e) → SaysTexts g texts h (Err e) v w → SaysTexts g texts k r v w
texts_failed g h k texts (Ok done) e v w is said = absurd is
texts_failed g h k texts (Err other) e v w is said = record { whole = tt; part = said.part }

-- a piece that is the lines of texts was said behind reads, or not whole
pub texts_said : {E : Type 0} (tells : Bool) (told : IsTrue tells) (g h : Grouping) (texts : List (List ℕ)) (piece : List ℕ) (v x w : Device) → ArePut g texts h [] piece → x.said ≡ v.said
    → Says {E = E} tells piece (Ok tt) x w → SaysTexts g texts h (Ok tt) v w
texts_said tells told g h texts piece v x w put before says = record {
  whole = record { stands = put.stands; text = (piece_said tells told (lines_from g texts) piece v x w put.text before says).whole };
  part = tt;
}

pub texts_cut : {E : Type 0} (tells : Bool) (g h k : Grouping) (texts : List (List ℕ)) (piece : List ℕ) (e : E) (v x w : Device) → ArePut g texts h [] piece → x.said ≡ v.said
    → Says {E = E} tells piece (Err e) x w → SaysTexts g texts k (Err Output) v w
texts_cut tells g h k texts piece e v x w put before says = record {
  whole = tt;
  part = (piece_cut tells (lines_from g texts) piece e v x w put.text before says).part;
}

-- after an error nothing is claimed besides
pub said_page : (g h : Grouping) (texts : List (List ℕ)) (r : Result Unit Fault) (e : Fault) (v w : Device) → IsErrAnd r (λ x. x ≡ e) → (Q : Type 0) → SaysTexts g texts h (Err e) v w
    → SaysTexts g texts h r v w × OnOk r Q
said_page g h texts (Ok done) e v w is Q said = absurd is
said_page g h texts (Err other) e v w is Q said = (record { whole = tt; part = said.part }, tt)

-- a page wasn't said
pub page_unsaid : (g h : Grouping) (texts : List (List ℕ)) (r : Result Unit Fault) (e : Fault) (v w : Device) → IsErrAnd r (λ x. x ≡ e) → (Q : Type 0) → w.said ≡ v.said
    → SaysTexts g texts h r v w × OnOk r Q
page_unsaid g h texts (Ok done) e v w is Q said = absurd is
page_unsaid g h texts (Err other) e v w is Q said = (texts_unsaid g h texts other v w said, tt)

-- texts of slots so far, of the next one, and of all
pub flat_next : (f : ℕ → List (List ℕ)) (slots : List ℕ) (i d : ℕ) → i < length slots → flat_map f (take i slots) ++ f (get_or slots i d) ≡ flat_map f (take (suc i) slots)
flat_next f [] i d within = absurd (omega (arith, within))
flat_next f (slot ∷ slots) zero d within = sym (append-nil (f slot))
flat_next f (slot ∷ slots) (suc i) d within =
    append_assoc (f slot) (flat_map f (take i slots)) (f (get_or slots i d))
    ∙ ap (λ (l : List (List ℕ)). f slot ++ l) (flat_next f slots i d (omega (arith, within)))

flat_split : (f : ℕ → List (List ℕ)) (slots : List ℕ) (i : ℕ) → flat_map f (take i slots) ++ flat_map f (drop i slots) ≡ flat_map f slots
flat_split f slots i = sym (flat_map-append f (take i slots) (drop i slots)) ∙ ap (flat_map f) (take-append-drop i slots)

one_more : (i : ℕ) → suc i ≡ i + 1
one_more i = omega arith

pub slots_put : (f : ℕ → List (List ℕ)) (slots : List ℕ) (i d : ℕ) (g h k : Grouping) (a b c : List ℕ) → i < length slots → ArePut g (flat_map f (take i slots)) h a b
    → ArePut h (f (get_or slots i d)) k b c → ArePut g (flat_map f (take (i + 1) slots)) k a c
slots_put f slots i d g h k a b c within p q =
    subst (λ (texts : List (List ℕ)). ArePut g texts k a c) (flat_next f slots i d within ∙ ap (λ (n : ℕ). flat_map f (take n slots)) (one_more i))
    (both_put g h k (flat_map f (take i slots)) (f (get_or slots i d)) a b c p q)

pub slots_next : (f : ℕ → List (List ℕ)) (slots : List ℕ) (i d : ℕ) (g h k : Grouping) (r : Result Unit Fault) (v x w : Device) → i < length slots
    → SaysTexts g (flat_map f (take i slots)) h (Ok tt) v x → SaysTexts h (f (get_or slots i d)) k r x w
    → SaysTexts g (flat_map f (take (i + 1) slots)) k r v w
slots_next f slots i d g h k r v x w within p q =
    texts_same g k (flat_map f (take i slots) ++ f (get_or slots i d)) (flat_map f (take (i + 1) slots)) r v w
    (flat_next f slots i d within ∙ ap (λ (n : ℕ). flat_map f (take n slots)) (one_more i))
    (texts_then g h k (flat_map f (take i slots)) (f (get_or slots i d)) r v x w p q)

pub slots_cut : (f : ℕ → List (List ℕ)) (slots : List ℕ) (i d : ℕ) (g h k j : Grouping) (e : Fault) (v x w : Device) → i < length slots
    → SaysTexts g (flat_map f (take i slots)) h (Ok tt) v x → SaysTexts h (f (get_or slots i d)) k (Err e) x w → SaysTexts g (flat_map f slots) j (Err e) v w
slots_cut f slots i d g h k j e v x w within p q =
    texts_same g j (flat_map f (take (i + 1) slots) ++ flat_map f (drop (i + 1) slots)) (flat_map f slots) (Err e) v w (flat_split f slots (i + 1))
    (texts_stop g k j (flat_map f (take (i + 1) slots)) (flat_map f (drop (i + 1) slots)) e v w (slots_next f slots i d g h k (Err e) v x w within p q))
