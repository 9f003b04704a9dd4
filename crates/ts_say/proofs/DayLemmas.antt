-- The text of a stamp is that of its day, that of its time in whole seconds, and the rest.
use Rattle.std.proofs.Common.{◌≡◌, ℕ, zero, suc, ◌+◌, ◌/◌, ◌%◌, ◌*◌, ◌-◌, ◌≤◌, ℤ, List, [], ◌∷◌, ◌++◌, length, take, drop, get_or, refl, sym, ap, ◌∙◌, append_assoc, arith}
use Rattle.std.proofs.Math.Seq.{drop-cons}
use Rattle.ts_base.specs.Moment.{day_of, clock_of, stamp_text, two_digits, five_digits}
use Rattle.ts_say.specs.Day.{day_text, seconds_text}

-- its first bytes are those of its day
pub day_part : (t midnight : ℤ) (whole : List ℕ) → whole ≡ stamp_text t → day_of midnight ≡ day_of t → take 11 whole ≡ day_text (day_of midnight)
unfolding stamp_text
day_part t midnight whole is same = ap (take 11) is ∙ ap day_text (sym same)

-- the hour, the minute and the second are those of the whole seconds
seconds_parts : (clock : ℕ) → two_digits (clock / 360_000_000) ++ 58 ∷ two_digits (clock / 6_000_000 % 60) ++ 58 ∷ two_digits (clock / 100_000 % 60) ≡ seconds_text (clock / 100_000)
seconds_parts clock =
    let hour : clock / 360_000_000 ≡ clock / 100_000 / 3600 = omega arith in
    let minute : clock / 6_000_000 ≡ clock / 100_000 / 60 = omega arith in
    λ j. two_digits (hour j) ++ 58 ∷ two_digits (minute j % 60) ++ 58 ∷ two_digits (clock / 100_000 % 60)

stamp_text-parts : (t : ℤ) → stamp_text t ≡ day_text (day_of t) ++ seconds_text (clock_of t / 100_000) ++ 46 ∷ five_digits (clock_of t % 100_000)
unfolding stamp_text
stamp_text-parts t = λ j. day_text (day_of t) ++ seconds_parts (clock_of t) j ++ 46 ∷ five_digits (clock_of t % 100_000)

-- all said are the stamp
pub stamp_said : (t midnight : ℤ) (clock seconds fraction : ℕ) (old new : List ℕ) → day_of midnight ≡ day_of t → clock ≡ clock_of t
    → seconds ≡ clock / 100_000 → fraction ≡ clock - seconds * 100_000
    → new ≡ old ++ (day_text (day_of midnight) ++ seconds_text seconds) ++ 46 ∷ five_digits fraction ++ 32 ∷ []
    → new ≡ old ++ stamp_text t ++ 32 ∷ []
stamp_said t midnight clock seconds fraction old new same since are left is =
    let whole : seconds ≡ clock_of t / 100_000 = are ∙ ap (λ n. n / 100_000) since in
    let rest : fraction ≡ clock_of t % 100_000 = omega arith in
    is ∙ (λ j. old ++ (day_text (same j) ++ seconds_text (whole j)) ++ 46 ∷ five_digits (rest j) ++ 32 ∷ [])
    ∙ ap (λ l. l ++ 32 ∷ []) (append_assoc old (day_text (day_of t) ++ seconds_text (clock_of t / 100_000)) (46 ∷ five_digits (clock_of t % 100_000)))
    ∙ ap (λ l. old ++ l ++ 32 ∷ []) (sym (stamp_text-parts t))

-- the bytes of a list from a place on, one by one
abbrev pub bytes_at : List ℕ → ℕ → ℕ → List ℕ
bytes_at l i zero = []
bytes_at l i (suc n) = get_or l i 0 ∷ bytes_at l (suc i) n

pub bytes_at-is : (l : List ℕ) (i n : ℕ) → i + n ≤ length l → bytes_at l i n ≡ take n (drop i l)
bytes_at-is l i zero below = refl
bytes_at-is l i (suc n) below =
    ap (λ k. get_or l i 0 ∷ k) (bytes_at-is l (suc i) n (omega arith)) ∙ sym (ap (take (suc n)) (drop-cons l i 0 (omega arith)))

-- the hour and the minute of seconds by whole minutes
pub minutes_parts : (n minutes hour minute second : ℕ) → minutes ≡ n / 60 → hour ≡ minutes / 60 → minute ≡ minutes - hour * 60 → second ≡ n - minutes * 60
    → two_digits hour ++ 58 ∷ two_digits minute ++ 58 ∷ two_digits second ≡ seconds_text n
minutes_parts n minutes hour minute second whole of_hour of_minute of_second =
    let first : hour ≡ n / 3600 = omega arith in
    let next : minute ≡ n / 60 % 60 = omega arith in
    let last : second ≡ n % 60 = omega arith in
    λ j. two_digits (first j) ++ 58 ∷ two_digits (next j) ++ 58 ∷ two_digits (last j)
