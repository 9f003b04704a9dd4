-- A statement without the blanks in front is refused at the same byte.
use Rattle.std.proofs.Common.{◌≡◌, ℕ, ◌+◌, ◌-◌, ◌≤◌, List, [], ◌∷◌, ◌++◌, length, take, Ok, Err, refl, sym, ◌∙◌, ap, arith, length-append}
use Rattle.std.proofs.Math.Seq.{take-append-add}
use Rattle.ts_text.specs.Phrase.{unblanked, Read, outcome}
use Rattle.ts_text.proofs.CallerLemmas.{Any, left-le, unblanked_twice, unblanked-le}
use Rattle.ts_tokens.specs.Tokens.{front}
use Rattle.ts_tokens.proofs.CallerLemmas.{front_laws, front_ending}
use Rattle.ts_command.specs.Grammar.{a_routine, a_call, a_command, command_of}
use Rattle.ts_command.specs.declared.command.Command.{Command}
use Rattle.ts_command.proofs.CommandLemmas.{call_yields}
use Rattle.ts_syntax.specs.Mistakes.{before_place}

-- blanks in front count for nothing
same_read : (text : List ℕ) → a_command (unblanked text) ≡ a_command text
unfolding a_command a_call a_routine
same_read text = rw (unblanked_twice text) refl

-- no more bytes are left than there are
left_over : (text : List ℕ) (left : ℕ) → a_command text ≡ Err left → left ≤ length text
unfolding a_command
left_over text left is = left-le front front_laws Any (59 ∷ []) front_ending a_call call_yields text left is

-- a command stays one
pub same_command : (text : List ℕ) (command : Command) → command_of (unblanked text) ≡ Ok command → command_of text ≡ Ok command
same_command text command is = go (a_command (unblanked text)) (same_read text) is where
  go : (read : Read Command) → read ≡ a_command text → outcome (length (unblanked text)) read ≡ Ok command → outcome (length text) (a_command text) ≡ Ok command
  go (Ok found) same made = ap (outcome (length text)) (sym same) ∙ made
  go (Err left) same made = absurd (cc)

-- A place in a statement without its blanks.
pub record SamePlace (text : List ℕ) (place : ℕ) : Type 0 where
  pub whole : ℕ
  pub refused : command_of text ≡ Err whole
  -- so many bytes are left behind each
  pub left : length text - whole ≡ length (unblanked text) - place
  pub within : place ≤ length (unblanked text)

pub same_place : (text : List ℕ) (place : ℕ) → command_of (unblanked text) ≡ Err place → SamePlace text place
same_place text place is = go (a_command (unblanked text)) refl is where
  go : (read : Read Command) → a_command (unblanked text) ≡ read → outcome (length (unblanked text)) read ≡ Err place → SamePlace text place
  go (Ok found) same refused = absurd (cc)
  go (Err left) same refused =
      let at : length (unblanked text) - left ≡ place = cc in
      let most = left_over (unblanked text) left same in
      let less = unblanked-le text in
      record {
        whole = length text - left;
        refused = ap (outcome (length text)) (sym (same_read text) ∙ same);
        left = omega (arith, at, most, less);
        within = omega (arith, at, most);
      }

-- what stands before a place in bytes that a first part ends with
pub before_tail : (start tail text : List ℕ) (place whole : ℕ) → length text - whole ≡ length tail - place → place ≤ length tail → before_place (start ++ tail) text whole ≡ start ++ take place tail
before_tail start tail text place whole left within =
    let size : length (start ++ tail) - (length text - whole) ≡ length start + place = omega (arith, left, within, length-append start tail) in
    ap (λ (n : ℕ). take n (start ++ tail)) size ∙ take-append-add start tail place

pub place-le : (text : List ℕ) (place : ℕ) → command_of text ≡ Err place → place ≤ length text
place-le text place is = go (a_command text) is where
  go : (read : Read Command) → outcome (length text) read ≡ Err place → place ≤ length text
  go (Ok found) refused = absurd (cc)
  go (Err left) refused = let at : length text - left ≡ place = cc in omega (arith, at)
