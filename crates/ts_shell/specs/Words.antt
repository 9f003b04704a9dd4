-- The words of the command line.
use Rattle.std.specs.Prelude.{◌≤◌, ℕ, ◌&&◌, nat_le, if◌then◌else◌, List, [], ◌∷◌, length, Option, Some, None, codes}
use Rattle.std.specs.Str.{bytes_eq}
use Rattle.ts_base.specs.Moment.{number_of, all_digits}
use Rattle.ts_shell.specs.declared.words.Job.{Job}
use Rattle.ts_shell.specs.declared.words.Job.TheVariants.{Init, Run, Check, Migrate, Gen, Sessions}

-- the number that 1 to 10 digits write
abbrev pub decimal : List ℕ → Option ℕ
decimal text = if nat_le 1 (length text) && nat_le (length text) 10 && all_digits text then Some (number_of text)
    else None

-- a number of element pages, 1 to 65536
abbrev pub pages_in : List ℕ → Option ℕ
pages_in text = elim (decimal text) [ None ↦ None | Some n ↦ (if nat_le 1 n && nat_le n 65536 then Some n else None) ]

-- a number of edits, 1 to 1000000
abbrev pub count_in : List ℕ → Option ℕ
count_in text = elim (decimal text) [ None ↦ None | Some n ↦ (if nat_le 1 n && nat_le n 1000000 then Some n else None) ]

-- a seed, 0 to 4294967295
abbrev pub seed_in : List ℕ → Option ℕ
seed_in text = elim (decimal text) [ None ↦ None | Some n ↦ (if nat_le n 4294967295 then Some n else None) ]

-- the job of a count and a seed, where both words give one
abbrev pub gen_job : Option ℕ → Option ℕ → Option Job
gen_job (Some count) (Some seed) = Some (Gen count seed)
gen_job _ _ = None

-- a number of pages that a volume can have, or of edits
abbrev pub IsJob : Job → Type 0
IsJob (Init pages) = (1 ≤ pages) × (pages ≤ 65536)
IsJob Run = Unit {0}
IsJob Check = Unit {0}
IsJob Migrate = Unit {0}
IsJob (Gen count seed) = (1 ≤ count) × (count ≤ 1000000)
IsJob (Sessions seed) = Unit {0}

-- what the words ask for: `run`, `check`, `migrate`, `init` and a number of pages, `sessions` and a seed, or `gen`, a
-- count and a seed
unfoldable pub job_of : List (List ℕ) → Option Job
job_of (word ∷ []) =
    if bytes_eq word (codes "run") then Some Run
    else (if bytes_eq word (codes "check") then Some Check else (if bytes_eq word (codes "migrate") then Some Migrate
    else None))
job_of (word ∷ number ∷ []) =
    if bytes_eq word (codes "init") then (elim (pages_in number) [ None ↦ None | Some n ↦ Some (Init n) ])
    else (if bytes_eq word (codes "sessions") then (elim (seed_in number) [ None ↦ None | Some n ↦ Some (Sessions n) ])
    else None)
job_of (word ∷ count ∷ seed ∷ []) =
    if bytes_eq word (codes "gen") then gen_job (count_in count) (seed_in seed) else None
job_of words = None
