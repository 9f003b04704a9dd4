use Rattle.std.proofs.Common.{◌≡◌, ℕ, List, ◌<◌, ◌≤◌, Some, None, take, length, ◌∙◌, sym, arith}
use Rattle.ts_tokens.specs.NumberForm.{IsNumber}
use Rattle.ts_tokens.specs.Tokens.{number_length}
use Rattle.ts_tokens.proofs.NumberFormLemmas.{number_form, number_longest}
use Rattle.ts_tokens.proofs.laws.a_number_is_the_longest.Goals as goal

no_longer : (bytes : List ℕ) (size : ℕ) → number_length bytes ≡ Some size → (longer : ℕ) → size < longer → longer ≤ length bytes → IsNumber (take longer bytes) → ⊥
no_longer bytes size is longer past within number =
    let found = number_longest bytes longer within number in
    let same : Some size ≡ Some found.0 = sym is ∙ found.1 in
    let sizes : size ≡ found.0 = cc in
    absurd (omega (arith, found.2))

nowhere : (bytes : List ℕ) → number_length bytes ≡ None → (size : ℕ) → size ≤ length bytes → IsNumber (take size bytes) → ⊥
nowhere bytes none size within number =
    let found = number_longest bytes size within number in
    let same : None ≡ Some found.0 = sym none ∙ found.1 in
    absurd (cc)

pub returns-clause-is : goal.returns-clause-is
returns-clause-is c = number_form

pub returns-clause-longest : goal.returns-clause-longest
returns-clause-longest c = no_longer

pub returns-clause-none : goal.returns-clause-none
returns-clause-none c = nowhere
