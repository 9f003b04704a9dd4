-- An opening: what it finds, and what a stop within it leaves.
use Rattle.std.proofs.Common.{◌≡◌, ◌≢◌, inl, inr, ℕ, ◌+◌, ◌<◌, ◌≤◌, Bool, IsTrue, Result, Ok, Err, IfErr, IsErrAnd, None, List, [], slice_index, length, get_or, IsPermutation, refl, ap, sym, ◌∙◌, subst, arith}
use Rattle.std.proofs.lemmas.List.Sorted.{IsPermutation-refl}
use Rattle.ts_disk.specs.Device.{Device, Lawful, Only, Rose, LeavesOnly}
use Rattle.ts_disk.proofs.Moments.{then_on, leaves_map}
use Rattle.ts_page.specs.Pages.{Contents, IsLawful, first_element_page}
use Rattle.ts_journal.specs.Journal.{AreAllowed, IsVolumeSize, page_count, pages, ReadsButFreed}
use Rattle.ts_journal.specs.Moment.{Keeps, OnlyReads, SamePages}
use Rattle.ts_store.proofs.CallerLemmas.{keeps_then, reads_then, idle_reads, read_closed, counted, read_dropped, read_committed}
use Rattle.ts_store.specs.OpenBatch.{State, IsOver, IsIdle, IsClosed, Settles, read_pages, contents_over}
use Rattle.ts_store.specs.Undisturbed.{Undisturbed}
use Rattle.ts_model.specs.Catalogue.{Catalogue}
use Rattle.ts_model.specs.Definitions.{Definitions, Tables}
use Rattle.ts_space.specs.Directory.{Directory}
use Rattle.ts_container.specs.declared.fault.SurveyFault.{SurveyFault}
use Rattle.ts_container.specs.declared.fault.SurveyFault.TheVariants.{NotAStore, Failed, Memory}
use Rattle.ts_layout.specs.Laws.{NamesStandInSlots}
use Rattle.ts_layout.specs.Meaning.{Layout, ElementPage, HoldsElements, HoldsLayout, Means, catalogue_of}
use Rattle.ts_container.specs.Survey.{IsFound, IsMarked, IfRefused}
use Rattle.ts_recover.specs.declared.replay.RecoverFault.{RecoverFault}
use Rattle.ts_recover.specs.declared.replay.RecoverFault.TheVariants as journal
use Rattle.ts_recover.specs.declared.replay.Replayed.{Replayed}
use Rattle.ts_recover.specs.Overlay.{RecoverCause}
use Rattle.ts_volume.specs.FirstBad.{IsFirstBad, IsFirstBadOf}
use Rattle.ts_layout.specs.Surveyed.{free_pages}
use Rattle.ts_layout.proofs.CallerLemmas.{free_at, kept_alike, pairs_front, same_catalogue}
use Rattle.ts_engine.specs.declared.engine.Engine.{Engine}
use Rattle.ts_volume.specs.Volume.{MeansCatalogue, MeansNothing}
use Rattle.ts_container.specs.KeptCharges.{AreCharges}
use Rattle.ts_layout.specs.Placed.{AreKept, used_pages}
use Rattle.ts_effects.specs.Charged.{CanCount}
use Rattle.ts_effects.proofs.CallerLemmas.{can_count}
use Rattle.ts_hidden.specs.Marks.{Cover, AreOfSlots}
use Rattle.ts_engine.specs.Engine.{Kept, IsKeptOf, AreMarked, IsReady}
use Rattle.ts_engine.specs.Start.{StillMeans, StartFault, ReadFault, Opened, read_as}
use Rattle.ts_volume.proofs.CallerLemmas.{holds_still, means_layout}
use Rattle.ts_engine.proofs.HiddenLemmas.{slots_cover}
use Rattle.ts_engine.proofs.MeansLemmas.{still_means}
use Rattle.ts_engine.proofs.MovesLemmas.{ready_resting, at_meant}

-- an answer that is an error by another call
pub if_err : {T : Type 0} (r : Result T SurveyFault) (fault : SurveyFault) (P : SurveyFault → Type 0) → IsErrAnd r (λ x. x ≡ fault) → P fault → IfErr r P
if_err (Ok x) fault P is holds = tt
if_err (Err other) fault P is holds = subst P (sym is) holds

pub opened_err : (tells : Bool) (r : Result Engine SurveyFault) (fault : SurveyFault) (v w : Device) → IsErrAnd r (λ x. x ≡ fault) → Opened tells (Err fault) v w → Opened tells r v w
opened_err tells (Ok e) fault v w is opened = absurd is
opened_err tells (Err other) fault v w is opened = subst (λ (x : SurveyFault). Opened tells (Err x) v w) (sym is) opened

-- what is read of an idle store is what the pages are
pub read_idle : (tells : Bool) (told : IsTrue tells) (s : State) (d : Device) → IsIdle tells s d → IsClosed s → read_pages s d.held ≡ pages d.held
read_idle tells told s d idle closed = λ i k. idle_reads tells s d idle closed told k i

-- what the journal's reading is refused for
pub journal_fault : (tells : Bool) (fault : RecoverFault) (v w : Device) → Lawful tells v → RecoverCause {T = Replayed} tells (Err fault) v w → ((fault ≡ journal.Failed → ⊥) → w.faults ≡ v.faults) → ReadFault tells (read_as fault) v w
journal_fault tells journal.Failed v w lawful cause quiet = cause
journal_fault tells (journal.Memory error) v w lawful cause quiet = quiet (λ failed. cc)
journal_fault tells (journal.NotAStore page) v w lawful (inl (zero, none)) quiet = (λ told. inl ((λ size. none (subst IsVolumeSize (lawful.size told) size)), zero), quiet (λ failed. cc))
journal_fault tells (journal.NotAStore page) v w lawful (inr (one, size, malformed)) quiet = (λ told. inr (subst IsVolumeSize (sym (lawful.size told)) size, inl (malformed told, one)), quiet (λ failed. cc))

-- the first bad page of the pages is that of the volume
pub survey_fault : (tells : Bool) (fault : SurveyFault) (number : ℕ) (s : State) (v w : Device) → Lawful tells v → IsIdle tells s v → IsClosed s → number ≡ s.pages
    → (fault ≡ Failed → Rose v.faults w.faults) → ((fault ≡ Failed → ⊥) → w.faults ≡ v.faults) → IfRefused fault (λ page. IsTrue tells → IsFirstBad number (read_pages s v.held) page) → ReadFault tells fault v w
survey_fault tells Failed number s v w lawful idle closed same cause quiet refused = cause refl
survey_fault tells (Memory error) number s v w lawful idle closed same cause quiet refused = quiet (λ failed. cc)
survey_fault tells (NotAStore page) number s v w lawful idle closed same cause quiet refused = (
  λ told.
      let count : page_count (length v.held) ≡ number = ap page_count (lawful.size told) ∙ counted v.size s.pages idle.over.read.size ∙ sym same in
      inr (
        subst IsVolumeSize (sym (lawful.size told)) idle.over.read.volume,
        inr (record {
          sound = ((idle.over.read.stands told).rs, (idle.over.read.stands told).stands.records);
          first = subst (λ (p : ℕ × (ℕ → List ℕ)). IsFirstBad p.0 p.1 page) (λ i. (sym count i, read_idle tells told s v idle closed i)) (refused told);
        }),
      ),
  quiet (λ failed. cc),
)

-- the pages that were found free can be taken
pub admitted : (tells : Bool) (s t : State) (d : Device) (x : Definitions) (space : Directory) (free : List ℕ) → IsIdle tells s d → IsFound tells s.pages (contents_over s d) x space free
    → t ≡ record s { free = free; kept_free = free; base_free = free } → IsOver tells t d
admitted tells s t d x space free idle found is =
    let next : State = record s { free = free; kept_free = free; base_free = free } in
    let over = idle.over in
    let placed = found.kept.placed in
    let lawful : IsLawful tells (contents_over next d) = record {
      different = pairs_front (λ a b. a ≢ b) free (used_pages space) placed.different;
      listed = λ k e within.
          let one = placed.numbers k e within in
          record {
            element = one.0;
            below = one.1;
            free = λ told.
                let known = found.layout told in
                let at = free_at first_element_page known.0.element_pages k e (subst (λ (ns : List ℕ). k < length ns) known.1.free within) in
                let P : ℕ → Type 0 = λ n. slice_index (read_pages s d.held n) 0 ≡ 0 in
                subst P (sym (ap (λ (ns : List ℕ). get_or ns k e) known.1.free ∙ at.2)) (let Q : ElementPage → Type 0 = λ e. HoldsElements known.0.definitions (read_pages s d.held (first_element_page + at.0)) e in
                subst Q at.3 (known.2.bytes.elements at.0 at.1));
          };
    } in
    subst (λ (z : State). IsOver tells z d) (sym is)
    (record {
      read = record { size = over.read.size; volume = over.read.volume; stands = over.read.stands; allowed = over.read.allowed; lawful = lawful; cached = over.read.cached };
      settled = over.settled;
    })

-- what was found is found still once the batch is dropped
pub found_dropped : (tells : Bool) (count : ℕ) (s t u : State) (v w : Device) (x : Definitions) (space : Directory) (free : List ℕ) → IsIdle tells s v → Undisturbed tells s t v w → u ≡ record t { batch = []; free = t.kept_free }
    → IsFound tells count (contents_over s v) x space free → count ≡ s.pages → IsFound tells u.pages (contents_over u w) x space free
found_dropped tells count s t u v w x space free idle calls dropped found same =
    let back : State = record t { batch = []; free = t.kept_free } in
    let pages : read_pages back w.held ≡ read_pages s v.held = λ i k. read_dropped tells s t v w calls idle.batch k i in
    subst (λ (z : State). IsFound tells z.pages (contents_over z w) x space free) (sym dropped)
    (record {
      kept = subst (λ (n : ℕ). AreKept x space free n) (sym (calls.pages ∙ sym same)) found.kept;
      layout = λ told. let known = found.layout told in (
        known.0,
        known.1,
        record { size = calls.pages ∙ sym same ∙ known.2.size; bytes = subst (λ (p : ℕ → List ℕ). HoldsLayout p known.0) (sym pages) known.2.bytes; rules = known.2.rules },
      );
    })

-- and so is what tells of hidden elements
pub marked_dropped : (tells : Bool) (count : ℕ) (s t u : State) (v w : Device) (x : Definitions) (space : Directory) (free : List ℕ) (hidden : List Bool) → IsIdle tells s v → Undisturbed tells s t v w → u ≡ record t { batch = []; free = t.kept_free }
    → IsMarked tells count (contents_over s v) x space free hidden → count ≡ s.pages → IsMarked tells u.pages (contents_over u w) x space free hidden
marked_dropped tells count s t u v w x space free hidden idle calls dropped marked same =
    let back : State = record t { batch = []; free = t.kept_free } in
    let pages : read_pages back w.held ≡ read_pages s v.held = λ i k. read_dropped tells s t v w calls idle.batch k i in
    subst (λ (z : State). IsMarked tells z.pages (contents_over z w) x space free hidden) (sym dropped)
    (λ told. let known = marked told in (
      known.0,
      known.1,
      record { size = calls.pages ∙ sym same ∙ known.2.size; bytes = subst (λ (p : ℕ → List ℕ). HoldsLayout p known.0) (sym pages) known.2.bytes; rules = known.2.rules },
      known.3,
    ))

-- what containers are charged can be counted
pub counted_found : (tells : Bool) (count : ℕ) (c : Contents) (x : Definitions) (space : Directory) (free : List ℕ) → IsFound tells count c x space free → CanCount x space.lists
counted_found tells count c x space free found = can_count x space free count found.kept

-- a volume that was surveyed: its pages can be taken, and then its journal is settled
module _ (tells : Bool) (s t : State) (v : Device) (x : Definitions) (space : Directory) (free : List ℕ) (idle : IsIdle tells s v) (rests : IsClosed s) (found : IsFound tells s.pages (contents_over s v) x space free)
    (admit : t ≡ record s { free = free; kept_free = free; base_free = free }) where
  over_admitted : IsOver tells t v
  over_admitted = admitted tells s t v x space free idle found admit

  none_open : t.batch ≡ []
  none_open = ap (λ (z : State). z.batch) admit ∙ idle.batch

  none_kept : t.transaction ≡ []
  none_kept = ap (λ (z : State). z.transaction) admit ∙ rests.transaction

  allowed : AreAllowed (page_count v.size) t.overlay
  allowed = subst (λ (n : ℕ). AreAllowed n t.overlay) (sym (counted v.size t.pages over_admitted.read.size)) over_admitted.read.allowed

  -- the layout that was found is that of what the volume means
  pub means_found : Lawful tells v → (told : IsTrue tells) → MeansCatalogue v.held (catalogue_of (found.layout told).0)
  means_found lawful told =
      let known = found.layout told in
      means_layout v.size (read_pages s v.held) v.held known.0 idle.over.read.volume (lawful.size told) ((idle.over.read.stands told).rs, (idle.over.read.stands told).stands.records)
      (λ k. inl (sym (idle_reads tells s v idle rests told k))) (counted v.size s.pages idle.over.read.size ∙ known.2.size) known.2.bytes known.2.rules

  -- the volume means the same at each moment
  pub settle_moments : Lawful tells v → (w : Device) → (IsTrue tells → LeavesOnly v w (SamePages v t.overlay)) → IsTrue tells → (cat : Catalogue) → MeansCatalogue v.held cat → LeavesOnly v w (StillMeans cat v)
  unfolding allowed
  settle_moments lawful w moments told cat means =
      leaves_map v w (SamePages v t.overlay) (StillMeans cat v) (λ image said now. (still_means v.size v.held t.overlay image cat (lawful.size told) allowed now.0 means, now.1)) (moments told)

  module _ (u : State) (w : Device) (tables : Tables) (hidden : List Bool) (marks : List (List ℕ)) (names : NamesStandInSlots) (tells_hidden : IsMarked tells s.pages (contents_over s v) x space free hidden) (slots_marked : AreOfSlots x hidden marks) (charges : List ℕ) (charged : AreCharges charges tables.definitions space) (lawful : Lawful tells v) (slots : length space.lists ≡ 4096) (same : tables.definitions ≡ x) (over : IsOver tells u w) (settled : Settles t u)
      (reads : IsTrue tells → ReadsButFreed v.size t.overlay (pages v.held) w.held) where
    abbrev pub engine : Kept
    engine = record { store = u; tables = tables; space = space; charges = charges; hidden = marks; saved = None; spent = None }

    none_left : u.batch ≡ []
    none_left = settled.batch ∙ none_open

    closed_left : IsClosed u
    closed_left = record {
      transaction = settled.transaction ∙ none_kept;
      base_free = settled.base_free ∙ ap (λ (z : State). z.base_free) admit ∙ sym (settled.free ∙ ap (λ (z : State). z.free) admit);
    }

    -- a layout that was found is held still
    held_then : (told : IsTrue tells) (l : Layout) → HoldsLayout (read_pages s v.held) l → HoldsLayout (read_pages u w.held) l
    unfolding over_admitted none_open none_kept none_left
    held_then told l bytes =
        let here : read_pages t v.held ≡ pages v.held = λ i k. read_closed t v.held none_kept none_open (over_admitted.read.stands told) k i in
        let before : read_pages t v.held ≡ read_pages s v.held = ap (λ (z : State). read_pages z v.held) admit in
        let alike = read_committed tells told t u v w over_admitted closed_left.transaction none_left over (subst (λ (p : ℕ → List ℕ). ReadsButFreed v.size t.overlay p w.held) (sym here) (reads told)) in
        holds_still (read_pages t v.held) (read_pages u w.held) l alike (subst (λ (p : ℕ → List ℕ). HoldsLayout p l) (sym before) bytes)

    holds : (told : IsTrue tells) → HoldsLayout (read_pages u w.held) (found.layout told).0
    holds told = held_then told (found.layout told).0 (found.layout told).2.bytes

    free_is : u.free ≡ free
    free_is = settled.free ∙ ap (λ (z : State). z.free) admit

    pages_are : u.pages ≡ s.pages
    pages_are = settled.pages ∙ ap (λ (z : State). z.pages) admit

    kept : (told : IsTrue tells) → IsKeptOf engine (found.layout told).0
    kept told =
        let known = found.layout told in
        let l = known.0 in
        let free_there : u.free ≡ free_pages l = free_is ∙ known.1.free in
        record {
          definitions = same ∙ known.1.definitions;
          size = pages_are ∙ known.2.size;
          places = known.1.places;
          free = subst (λ (ns : List ℕ). IsPermutation ns (free_pages l)) (sym free_there) (IsPermutation-refl (free_pages l));
          rules = known.2.rules;
          filled = known.1.filled;
        }

    -- what is kept keeps its rules
    rules : AreKept tables.definitions space u.free u.pages
    rules = kept_alike x tables.definitions space space free u.free s.pages u.pages found.kept same refl free_is pages_are

    -- the marks cover what the pages mean
    marked : AreMarked tells engine w
    marked told cat means =
        let known = tells_hidden told in
        let l = known.0 in
        let here : Means u.pages (read_pages u w.held) (catalogue_of l) = (l, record { size = pages_are ∙ known.2.size; bytes = held_then told l known.2.bytes; rules = known.2.rules }, refl) in
        subst (Cover marks) (sym (same_catalogue u.pages (read_pages u w.held) cat (catalogue_of l) means here))
        (slots_cover names hidden marks l known.2.rules known.3 (subst (λ (d : Definitions). AreOfSlots d hidden marks) known.1.definitions slots_marked))

    pub ready : IsReady tells engine w
    unfolding none_left holds kept rules marked
    ready =
        ready_resting tells engine w refl
        (record {
          idle = record { over = over; batch = none_left; kept_free = settled.kept_free ∙ ap (λ (z : State). z.kept_free) admit ∙ sym (settled.free ∙ ap (λ (z : State). z.free) admit) };
          seen = record { kept = rules; layout = λ told. ((found.layout told).0, record { kept = kept told; holds = λ t. holds told }) };
          marked = marked;
        }) closed_left charged refl

    pub settled_opened : Lawful tells w → Keeps tells v w → (IsTrue tells → LeavesOnly v w (SamePages v t.overlay)) → w.faults ≡ v.faults → Opened tells (Ok engine) v w
    unfolding allowed means_found
    settled_opened later keeps moments no_fault = record {
      ready = ready;
      rests = refl;
      means = λ told. (catalogue_of (found.layout told).0, means_found lawful told);
      at = λ told cat means. at_meant tells engine w later ready refl told cat (still_means v.size v.held t.overlay w.held cat (lawful.size told) allowed (reads told) means);
      fault = tt;
      others = keeps;
      moments = settle_moments lawful w moments;
      nothing = λ told none. absurd (none (catalogue_of (found.layout told).0) (means_found lawful told));
      no_fault = no_fault;
    }

-- the settling failed
pub unsettled : (tells : Bool) (v w : Device) → Rose v.faults w.faults → Keeps tells v w → (IsTrue tells → (cat : Catalogue) → MeansCatalogue v.held cat → LeavesOnly v w (StillMeans cat v)) → (IsTrue tells → (cat : Catalogue) × MeansCatalogue v.held cat) → Opened tells (Err Failed) v w
unsettled tells v w rose keeps moments means = record { ready = tt; rests = tt; means = tt; at = tt; fault = rose; others = keeps; moments = moments; nothing = λ told none. absurd (none (means told).0 (means told).1); no_fault = tt }

-- what only reads means the same at each moment
reads_mean : (tells : Bool) (v w : Device) (cat : Catalogue) → Only v.held v.images → OnlyReads tells v w → MeansCatalogue v.held cat → LeavesOnly v w (StillMeans cat v)
reads_mean tells v w cat only reads means =
    leaves_map v w (λ image said. v.images image × (said ≡ v.said)) (StillMeans cat v)
    (λ image said now. (subst (λ (bytes : List ℕ). MeansCatalogue bytes cat) (sym (only image now.0)) means, now.1)) reads.moments

-- nothing was written
pub refused : (tells : Bool) (fault : SurveyFault) (v w : Device) → Only v.held v.images → OnlyReads tells v w → ReadFault tells fault v w → Opened tells (Err fault) v w
refused tells fault v w only reads cause = record {
  ready = tt;
  rests = tt;
  means = tt;
  at = tt;
  fault = whole fault cause;
  others = reads.keeps;
  moments = λ told cat means. reads_mean tells v w cat only reads means;
  nothing = λ told none. reads;
  no_fault = tt;
}
  where
    whole : (fault : SurveyFault) → ReadFault tells fault v w → StartFault tells fault v w
    whole Failed cause = cause
    whole (NotAStore page) cause = (cause.0, reads.held, reads.images, cause.1)
    whole (Memory error) cause = (reads.held, reads.images, cause)

-- a count that rose later
pub rose_on : (a b c : ℕ) → a ≤ b → Rose b c → Rose a c
rose_on a b c le rose = omega arith

-- the same after reads
pub fault_after : (tells : Bool) (fault : SurveyFault) (v x w : Device) → OnlyReads tells v x → x.faults ≡ v.faults → ReadFault tells fault x w → ReadFault tells fault v w
fault_after tells Failed v x w reads quiet cause = rose_on v.faults x.faults w.faults reads.keeps.faults cause
fault_after tells (NotAStore page) v x w reads quiet cause = (λ told. subst (λ (bytes : List ℕ). IsFirstBadOf bytes page) reads.held (cause.0 told), cause.1 ∙ quiet)
fault_after tells (Memory error) v x w reads quiet cause = cause ∙ quiet

-- each moment of both
moments_after : (tells : Bool) (v x w : Device) (cat : Catalogue) → Only v.held v.images → OnlyReads tells v x → MeansCatalogue v.held cat → LeavesOnly x w (StillMeans cat x) → LeavesOnly v w (StillMeans cat v)
moments_after tells v x w cat only reads means later =
    then_on v x w (StillMeans cat v) (reads_mean tells v x cat only reads means)
    (leaves_map x w (StillMeans cat x) (StillMeans cat v) (λ image said now. (now.0, now.1 ∙ reads.keeps.said)) later)

-- an opening went on after it had read
pub opened_after : (tells : Bool) (result : Result Engine SurveyFault) (v x w : Device) → Only v.held v.images → OnlyReads tells v x → x.faults ≡ v.faults → Opened tells result x w → Opened tells result v w
opened_after tells (Ok e) v x w only reads quiet opened = record {
  ready = opened.ready;
  rests = opened.rests;
  means = λ told. let means = opened.means told in (means.0, subst (λ (bytes : List ℕ). MeansCatalogue bytes means.0) reads.held means.1);
  at = λ told cat means. opened.at told cat (subst (λ (bytes : List ℕ). MeansCatalogue bytes cat) (sym reads.held) means);
  fault = tt;
  others = keeps_then tells v x w reads.keeps opened.others;
  moments = λ told cat means. moments_after tells v x w cat only reads means (opened.moments told cat (subst (λ (bytes : List ℕ). MeansCatalogue bytes cat) (sym reads.held) means));
  nothing = λ told none. reads_then tells v x w reads (opened.nothing told (subst MeansNothing (sym reads.held) none));
  no_fault = opened.no_fault ∙ quiet;
}
opened_after tells (Err fault) v x w only reads quiet opened = record {
  ready = tt;
  rests = tt;
  means = tt;
  at = tt;
  fault = later fault opened.fault;
  others = keeps_then tells v x w reads.keeps opened.others;
  moments = λ told cat means. moments_after tells v x w cat only reads means (opened.moments told cat (subst (λ (bytes : List ℕ). MeansCatalogue bytes cat) (sym reads.held) means));
  nothing = λ told none. reads_then tells v x w reads (opened.nothing told (subst MeansNothing (sym reads.held) none));
  no_fault = tt;
}
  where
    later : (fault : SurveyFault) → StartFault tells fault x w → StartFault tells fault v w
    later Failed cause = rose_on v.faults x.faults w.faults reads.keeps.faults cause
    later (NotAStore page) cause = (λ told. subst (λ (bytes : List ℕ). IsFirstBadOf bytes page) reads.held (cause.0 told), cause.1 ∙ reads.held, λ image now. reads.images image (cause.2 image now), cause.3 ∙ quiet)
    later (Memory error) cause = (cause.0 ∙ reads.held, λ image now. reads.images image (cause.1 image now), cause.2 ∙ quiet)
