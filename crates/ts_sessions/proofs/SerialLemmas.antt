-- The commits are one list of transactions, each on what was committed before.
use Rattle.std.proofs.Common.{◌≡◌, ◌⊎◌, inl, inr, ℕ, zero, suc, pos, ◌+◌, ◌-◌, ◌<◌, ◌≤◌, Bool, true, cond, Option, Some, None, Ok, Err, List, [], ◌∷◌, ◌++◌, length, map, get_or, All, refl, ap, sym, ◌∙◌, subst, append_assoc, arith}
use Rattle.std.specs.List.{flat_map}
use Rattle.std.proofs.lemmas.List.{append-nil}
use Rattle.std.proofs.lemmas.List.Elements.{All-append}
use Rattle.ts_command.specs.declared.command.Command.{Command}
use Rattle.ts_command.specs.declared.command.Command.TheVariants as commands
use Rattle.ts_command.specs.declared.boundary.Boundary.TheVariants.{Commits}
use Rattle.ts_command.specs.Boundary.{is_writing}
use Rattle.ts_command.specs.Grammar.{Request}
use Rattle.ts_model.specs.Catalogue.{Catalogue}
use Rattle.ts_multi.specs.Objects.{written}
use Rattle.ts_multi.specs.Touched.{objects}
use Rattle.ts_answer.specs.Reply.{ok_line, number_line}
use Rattle.ts_answer.specs.Answer.{Tried, Answered, ◌>>=◌, outcome, State, resting, opened, counted, run_outcome, run_answer}
use Rattle.ts_answer.proofs.CallerLemmas.{run_came, opened_outside, committed_outside, committed_inside, came_inside}
use Rattle.ts_sessions.specs.Machine.{Commit, Snapshot, Machine, start, latest, snapshot_at, behind_commits, replayed, conflict}
use Rattle.ts_sessions.specs.Steps.{Turn, with_snapshot, with_commit, replied, unless_conflict, accepted_or, committed, step_of, machine_step, machine_answer}
use Rattle.ts_sessions.specs.Turns.{behind_all}
use Rattle.ts_sessions.specs.Laws.{CanBeNoted, MayCommit, Appends, OnlyCommitsAppend, AreMade, in_transaction, CommitsAreOneList, IsSound}
use Rattle.ts_sessions.proofs.CarriedLemmas.{replayed_one, behind_commits_more}
use Rattle.ts_sessions.proofs.MoveLemmas.{cleared, Moves, stays, begins, ends, notes, commits_alone, commits_all, moves}
use Rattle.ts_sessions.proofs.SoundLemmas.{sound_start, sound_step}

-- what the only command of a commit wrote
wrote_one : (command : Command) → (objects command).wrote ≡ written (map objects (command ∷ []))
wrote_one command = sym (append-nil (objects command).wrote)

first_moved : (who : ℕ) (pending : Option Snapshot) (request : Request) (m after : Machine) → Moves who pending request m after → after.first ≡ m.first
first_moved who pending request m after (stays e) = ap (λ (x : Machine). x.first) e
first_moved who pending request m after (begins none e) = ap (λ (x : Machine). x.first) e
first_moved who pending request m after (ends e) = ap (λ (x : Machine). x.first) e
first_moved who pending request m after (notes s command a some writes few is e) = ap (λ (x : Machine). x.first) e
first_moved who pending request m after (commits_alone command a none asked writes is e) = ap (λ (x : Machine). x.first) e
first_moved who pending request m after (commits_all s command next some asked commits free is e) = ap (λ (x : Machine). x.first) e

module _ (m : Machine) (turn : Turn) (after : Machine) where
  abbrev Leaves : Type 0
  Leaves = (after.commits ≡ m.commits) ⊎ Appends m turn after

  leaves : (pending : Option Snapshot) → snapshot_at (turn.0 - 1) m ≡ pending → Moves (turn.0 - 1) pending turn.1 m after → Leaves
  leaves pending at (stays e) = inl (ap (λ (x : Machine). x.commits) e)
  leaves pending at (begins none e) = inl (ap (λ (x : Machine). x.commits) e)
  leaves pending at (ends e) = inl (ap (λ (x : Machine). x.commits) e)
  leaves pending at (notes s command a some writes few is e) = inl (ap (λ (x : Machine). x.commits) e)
  leaves pending at (commits_alone command a none asked writes is e) = inr (record {
    block = command ∷ [];
    may = subst (λ (p : Option Snapshot). MayCommit m p turn.1 (command ∷ [])) (sym (at ∙ none)) (command, asked, writes, refl);
    next = a.1;
    made = replayed_one (latest m) command a is;
    appended = ap (λ (x : Machine). x.commits) e ∙ (λ i. m.commits ++ record { catalogue = a.1; wrote = wrote_one command i } ∷ []);
  })
  leaves pending at (commits_all s command next some asked commits free is e) = inr (record {
    block = s.commands;
    may = subst (λ (p : Option Snapshot). MayCommit m p turn.1 s.commands) (sym (at ∙ some)) (command, asked, commits, refl, free);
    next = next;
    made = is;
    appended = ap (λ (x : Machine). x.commits) e;
  })

-- a Commit leaves no transaction open
module _ (m : Machine) (who : ℕ) where
  closed_by_reply : (s : Snapshot) (came : Tried Catalogue) → snapshot_at who (replied who s m came).1 ≡ None
  closed_by_reply s (Ok next) = cleared m.sessions who
  closed_by_reply s (Err refusal) = cleared m.sessions who

  closed_by : (s : Snapshot) (number : Option ℕ) → snapshot_at who (unless_conflict who s m number).1 ≡ None
  closed_by s (Some number) = cleared m.sessions who
  closed_by s None = closed_by_reply s (replayed (latest m) s.commands)

  closed_at : (pending : Option Snapshot) → snapshot_at who m ≡ pending → snapshot_at who (committed who commands.Commit pending m).1 ≡ None
  closed_at (Some s) at = closed_by s (conflict m s)
  closed_at None at =
      subst (λ (t : Tried (List ℕ × State)). snapshot_at who (accepted_or who commands.Commit (Some Commits) None m t).1 ≡ None)
      (sym (committed_outside commands.Commit (latest m) refl)) at

  closed : (request : Request) → request ≡ Ok commands.Commit → snapshot_at who (step_of who request m).1 ≡ None
  closed request asked = subst (λ (r : Request). snapshot_at who (step_of who r m).1 ≡ None) (sym asked) (closed_at (snapshot_at who m) refl)

pub only_commits : (m : Machine) (turn : Turn) → OnlyCommitsAppend m turn
only_commits m turn =
    let after : Machine = (machine_step m turn).1 in
    let who : ℕ = turn.0 - 1 in
    record {
      first = first_moved who (snapshot_at who m) turn.1 m after (moves who turn.1 m);
      commits = leaves m turn after (snapshot_at who m) refl (moves who turn.1 m);
      ends = closed m who turn.1;
    }

-- what is committed together
record Fits (block : List Command) : Type 0 where
  few : length block ≤ 32
  writing : All CanBeNoted block

-- the commits so far
record Kept (cat : Catalogue) (m : Machine) : Type 0 where
  first : m.first ≡ cat
  sound : IsSound m
  blocks : List (List Command)
  made : AreMade cat m.commits blocks
  fit : All Fits blocks

made_more : (cat : Catalogue) (commits : List Commit) (blocks : List (List Command)) (commit : Commit) (block : List Command) → AreMade cat commits blocks
    → replayed (behind_commits cat commits) block ≡ Ok commit.catalogue → commit.wrote ≡ written (map objects block) → AreMade cat (commits ++ commit ∷ []) (blocks ++ block ∷ [])
made_more cat [] [] commit block made is wrote = (is, wrote, tt)
made_more cat [] (other ∷ blocks) commit block made is wrote = absurd made
made_more cat (first ∷ commits) [] commit block made is wrote = absurd made
made_more cat (first ∷ commits) (other ∷ blocks) commit block made is wrote = (made.0, made.1, made_more first.catalogue commits blocks commit block made.2 is wrote)

one_fits : (command : Command) → CanBeNoted command → Fits (command ∷ [])
one_fits command writes = record { few = omega arith; writing = one } where
  one : All CanBeNoted (command ∷ [])
  one zero d within = writes
  one (suc k) d within = absurd (omega (arith, within))

fits_more : (blocks : List (List Command)) (block : List Command) → All Fits blocks → Fits block → All Fits (blocks ++ block ∷ [])
fits_more blocks block fit more = All-append Fits blocks (block ∷ []) fit one where
  one : All Fits (block ∷ [])
  one zero d within = more
  one (suc k) d within = absurd (omega (arith, within))

module _ (cat : Catalogue) (m after : Machine) (kept : Kept cat m) (sound : IsSound after) where
  kept_same : after.first ≡ m.first → after.commits ≡ m.commits → Kept cat after
  kept_same first commits = record {
    first = first ∙ kept.first;
    sound = sound;
    blocks = kept.blocks;
    made = subst (λ (l : List Commit). AreMade cat l kept.blocks) (sym commits) kept.made;
    fit = kept.fit;
  }

  kept_more : after.first ≡ m.first → (commit : Commit) (block : List Command) → after.commits ≡ m.commits ++ commit ∷ [] → Fits block → replayed (latest m) block ≡ Ok commit.catalogue
      → commit.wrote ≡ written (map objects block) → Kept cat after
  kept_more first commit block commits fits is wrote =
      let here : replayed (behind_commits cat m.commits) block ≡ Ok commit.catalogue = (λ i. replayed (behind_commits (sym kept.first i) m.commits) block) ∙ is in
      record {
        first = first ∙ kept.first;
        sound = sound;
        blocks = kept.blocks ++ block ∷ [];
        made = subst (λ (l : List Commit). AreMade cat l (kept.blocks ++ block ∷ [])) (sym commits) (made_more cat m.commits kept.blocks commit block kept.made here wrote);
        fit = fits_more kept.blocks block kept.fit fits;
      }

  kept_moved : (who : ℕ) (request : Request) → Moves who (snapshot_at who m) request m after → Kept cat after
  kept_moved who request (stays e) = kept_same (ap (λ (x : Machine). x.first) e) (ap (λ (x : Machine). x.commits) e)
  kept_moved who request (begins none e) = kept_same (ap (λ (x : Machine). x.first) e) (ap (λ (x : Machine). x.commits) e)
  kept_moved who request (ends e) = kept_same (ap (λ (x : Machine). x.first) e) (ap (λ (x : Machine). x.commits) e)
  kept_moved who request (notes s command a some writes few is e) = kept_same (ap (λ (x : Machine). x.first) e) (ap (λ (x : Machine). x.commits) e)
  kept_moved who request (commits_alone command a none asked writes is e) =
      kept_more (ap (λ (x : Machine). x.first) e) (record { catalogue = a.1; wrote = (objects command).wrote }) (command ∷ []) (ap (λ (x : Machine). x.commits) e)
      (one_fits command writes) (replayed_one (latest m) command a is) (wrote_one command)
  kept_moved who request (commits_all s command next some asked commits free is e) =
      let x = kept.sound who s some in
      kept_more (ap (λ (x : Machine). x.first) e) (record { catalogue = next; wrote = written (map objects s.commands) }) s.commands (ap (λ (x : Machine). x.commits) e)
      (record { few = x.few; writing = x.writing }) is refl

kept_all : (cat : Catalogue) (m : Machine) (turns : List Turn) → Kept cat m → Kept cat (behind_all machine_answer m turns)
kept_all cat m [] kept = kept
kept_all cat m (turn ∷ turns) kept =
    let after : Machine = (machine_step m turn).1 in
    kept_all cat after turns (kept_moved cat m after kept (sound_step m turn kept.sound) (turn.0 - 1) turn.1 (moves (turn.0 - 1) turn.1 m))

-- a transaction of one session, from a place within it
abbrev RestAlone : List Command → Type 0
RestAlone block =
    (base work : Catalogue) (n : ℕ) (next : Catalogue) (more : List Request) → n + length block ≤ 32 → All CanBeNoted block → replayed work block ≡ Ok next
    → behind_all run_answer (opened base work n) ((map Ok block ++ Ok commands.Commit ∷ []) ++ more) ≡ behind_all run_answer (resting next) more

one_alone_then : (command : Command) (block : List Command) → RestAlone block → (base work : Catalogue) (n : ℕ) (next : Catalogue) (more : List Request) → n + length (command ∷ block) ≤ 32
    → All CanBeNoted (command ∷ block) → replayed work (command ∷ block) ≡ Ok next → (came : Tried Answered) → outcome (Ok command) work ≡ came
    → behind_all run_answer (opened base work n) ((map Ok (command ∷ block) ++ Ok commands.Commit ∷ []) ++ more) ≡ behind_all run_answer (resting next) more
unfolding ◌>>=◌
one_alone_then command block others base work n next more few writes is (Ok a) came =
    let noted : CanBeNoted command = writes 0 command (omega arith) in
    let wrote : is_writing command ≡ true = noted.0 in
    let one : counted command n ≡ n + 1 = λ i. n + cond (wrote i) 1 0 in
    let step = run_came (Ok command) (opened base work n) a.0 (opened base a.1 (counted command n))
    (came_inside command base work n noted.1 (λ w. omega (arith, few)) a.0 a.1 came) in
    (λ i. behind_all run_answer (step i).1 ((map Ok block ++ Ok commands.Commit ∷ []) ++ more))
    ∙ (λ i. behind_all run_answer (opened base a.1 (one i)) ((map Ok block ++ Ok commands.Commit ∷ []) ++ more))
    ∙ others base a.1 (n + 1) next more (omega (arith, few)) (λ k d less. writes (suc k) d (omega (arith, less))) (sym (λ i. came i >>= λ x. replayed x.1 block) ∙ is)
one_alone_then command block others base work n next more few writes is (Err refusal) came =
    let refused : Err refusal ≡ Ok next = sym (λ i. came i >>= λ x. replayed x.1 block) ∙ is in
    absurd (cc)

rest_alone : (block : List Command) → RestAlone block
rest_alone [] base work n next more few writes is =
    let same : work ≡ next = cc in
    let ended = run_came (Ok commands.Commit) (opened base work n) (number_line (pos n)) (resting work) (committed_inside commands.Commit base work n refl) in
    (λ i. behind_all run_answer (ended i).1 more) ∙ (λ i. behind_all run_answer (resting (same i)) more)
rest_alone (command ∷ block) base work n next more few writes is =
    one_alone_then command block (rest_alone block) base work n next more few writes is (outcome (Ok command) work) refl

one_alone : (cat : Catalogue) (block : List Command) (next : Catalogue) (more : List Request) → Fits block → replayed cat block ≡ Ok next
    → behind_all run_answer (resting cat) (in_transaction block ++ more) ≡ behind_all run_answer (resting next) more
one_alone cat block next more fits is =
    let begins_so = run_came (Ok commands.Begin) (resting cat) ok_line (opened cat cat 0) (opened_outside commands.Begin cat refl) in
    (λ i. behind_all run_answer (begins_so i).1 ((map Ok block ++ Ok commands.Commit ∷ []) ++ more))
    ∙ rest_alone block cat cat 0 next more (omega (arith, fits.few)) fits.writing is

all_alone : (cat : Catalogue) (commits : List Commit) (blocks : List (List Command)) → AreMade cat commits blocks → All Fits blocks
    → behind_all run_answer (resting cat) (flat_map in_transaction blocks) ≡ resting (behind_commits cat commits)
all_alone cat [] [] made fit = refl
all_alone cat [] (block ∷ blocks) made fit = absurd made
all_alone cat (commit ∷ commits) [] made fit = absurd made
all_alone cat (commit ∷ commits) (block ∷ blocks) made fit =
    one_alone cat block commit.catalogue (flat_map in_transaction blocks) (fit 0 block (omega arith)) made.0
    ∙ all_alone commit.catalogue commits blocks made.2 (λ k d less. fit (suc k) d (omega (arith, less)))

pub one_list : (count : ℕ) (cat : Catalogue) (turns : List Turn) → CommitsAreOneList cat (behind_all machine_answer (start count cat) turns)
one_list count cat turns =
    let m : Machine = behind_all machine_answer (start count cat) turns in
    let kept = kept_all cat (start count cat) turns (record { first = refl; sound = sound_start count cat; blocks = []; made = tt; fit = λ k d within. absurd (omega (arith, within)) }) in
    record {
      blocks = kept.blocks;
      made = kept.made;
      alone = all_alone cat m.commits kept.blocks kept.made kept.fit ∙ (λ i. resting (behind_commits (sym kept.first i) m.commits));
    }
