-- What a run came to, put together from its parts; and that a run in which all is in order is played.
use Rattle.std.proofs.Common.{◌≡◌, ◌⊎◌, ℕ, true, false, List, [], ◌∷◌, ◌++◌, Option, Some, None, Result, Ok, Err, IfOk, IsTrue, refl, sym, ap, ◌∙◌, subst, inl, inr, ⊎_elim, arith, append-nil}
use Rattle.std.specs.List.{All}
use Rattle.std.specs.declared.alloc.AllocError.{AllocError}
use Rattle.zc_io.specs.Stock.{Stock, Gave}
use Rattle.zc_io.specs.Stream.{Stream, Keeps}
use Rattle.zc_script.specs.declared.act.Line.{Line}
use Rattle.zc_script.specs.Lines.{texts_of, first_bad}
use Rattle.zc_script.specs.Spelling.{IsActOf}
use Rattle.zc_root.proofs.RootLaws.{one_root}
use Rattle.zc_damage.specs.declared.damage.Damage.{Damage}
use Rattle.zc_state.specs.State.{State, StandsFor}
use Rattle.zc_state.specs.Reading.{read_state}
use Rattle.zc_state.proofs.ReadLaws.{read_only}
use Rattle.zc_prog.specs.Session.{AreActs}
use Rattle.zc_prog.specs.declared.words.Task.{Task}
use Rattle.zc_prog.specs.declared.words.Task.TheVariants.{Play, Create}
use Rattle.zc_prog.specs.declared.ended.Ended.{Ended}
use Rattle.zc_prog.specs.declared.ended.Ended.TheVariants.{Usage, ReadFault, TooLarge, BadLine, Missing, DiskFault, NoPool, Damaged, PoolExists, OtherSize, Played, Created}
use Rattle.zc_prog.specs.Input.{WasRead}
use Rattle.zc_prog.specs.Output.{IsReported}
use Rattle.zc_prog.specs.Ended.{code_of, text_of}
use Rattle.zc_prog.specs.Words.{task_of, name_in}
use Rattle.zc_prog.specs.Pooled.{HoldsOfGiven, IsReturn, IsPlayedAs, IsPooled, WasStopped}
use Rattle.zc_prog.specs.Play.{Outside, lines_in, WasPlayed, IsCause, IsEnded, IsStopped, IsRunOf, IsRun, WasSound, IsOrderly, IsComplete}

-- ---- want of memory

-- nothing was handed back
pub none_stopped : (old new : Outside) (name : List ℕ) → new.stock ≡ old.stock → IsStopped old new (Some (Play name))
none_stopped old new name same told = inl (ap (λ (s : Stock). s.gives) same)

-- what is known of the set that was handed back, with the script that was read
pub script_stopped : (old new : Outside) (name script : List ℕ) (lines : List Line) → WasRead old.left new.left script → first_bad (name ∷ []) (texts_of script) ≡ None → lines ≡ lines_in name script
    → HoldsOfGiven (WasStopped lines) old.stock new.stock name → IsStopped old new (Some (Play name))
script_stopped old new name script lines read good same holds told = ⊎_elim
    (λ (none : new.stock.gives ≡ old.stock.gives). inl none)
    (λ (one : (gave : Gave) × (gave.name ≡ name) × (new.stock.gives ≡ old.stock.gives ++ gave ∷ []) × WasStopped lines gave).
    inr (one.0, one.1, one.2, record { script = script; read = read; good = good; cut_short = subst (λ (l : List Line). WasStopped l one.0) same one.3 }))
    (holds told)

-- nothing at all was done
pub nothing_stopped : (old : Outside) (task : Option Task) → IsStopped old old task
nothing_stopped old None = λ told. inl refl
nothing_stopped old (Some (Play name)) = λ told. inl refl
nothing_stopped old (Some (Create name devices places)) = λ told. inl refl

pub nothing_done : (task : Option Task) (old : Outside) (taken : Stream) (write_faults code : ℕ) → code ≡ 1 → IsRunOf task old old taken taken write_faults write_faults code
nothing_done task old taken write_faults code one = inr (one, λ _. refl, nothing_stopped old task)

-- what it came to was told, or memory was wanting for that
pub told_or_stopped : (task : Task) (old new : Outside) (taken taken_after : Stream) (write_faults write_faults_after code : ℕ) (ended : Ended) → IsEnded old new (Some task) ended → IsStopped old new (Some task)
    → IsReported taken taken_after write_faults write_faults_after (text_of (name_in (Some task)) ended) (code_of ended) code ⊎ ((code ≡ 1) × Keeps taken taken_after)
    → IsRunOf (Some task) old new taken taken_after write_faults write_faults_after code
told_or_stopped task old new taken taken_after write_faults write_faults_after code ended is stopped told =
    ⊎_elim (λ reported. inl (ended, is, reported)) (λ (memory : (code ≡ 1) × Keeps taken taken_after). inr (memory.0, memory.1, stopped)) told

-- ---- what a script came to

-- the lines of a script are acts
pub acts_are : (name : List ℕ) (lines : List Line) → All (λ (line : Line). IsActOf (name ∷ []) line.act) lines → AreActs lines
acts_are name lines acts = (name ∷ [], acts)

module _ (old new : Outside) (name script : List ℕ) (lines : List Line) (read : WasRead old.left new.left script) (good : first_bad (name ∷ []) (texts_of script) ≡ None) (same : lines ≡ lines_in name script) where
  -- the script was played, and this came of it
  was_played : (ended : Ended) → IsPooled old.stock new.stock old.shelf_faults new.shelf_faults name lines ended → WasPlayed old new name script ended
  was_played ended is = record { read = read; good = good; pooled = subst (λ (l : List Line). IsPooled old.stock new.stock old.shelf_faults new.shelf_faults name l ended) same is }

  cause_of : (ended : Ended) → IsPooled old.stock new.stock old.shelf_faults new.shelf_faults name lines ended → IsCause old new name ended
  cause_of Usage is = is
  cause_of ReadFault is = absurd is
  cause_of TooLarge is = absurd is
  cause_of (BadLine line) is = absurd is
  cause_of Missing is = (script, was_played Missing is)
  cause_of DiskFault is = (script, was_played DiskFault is)
  cause_of NoPool is = (script, was_played NoPool is)
  cause_of (Damaged damage) is = (script, was_played (Damaged damage) is)
  cause_of PoolExists is = is
  cause_of OtherSize is = is
  cause_of (Created given) is = is
  cause_of (Played text good) is = (script, was_played (Played text good) is)

  pub played_cause : (r : Result Ended AllocError) → IfOk r (IsPooled old.stock new.stock old.shelf_faults new.shelf_faults name lines) → IfOk r (IsCause old new name)
  played_cause (Ok ended) is = cause_of ended is
  played_cause (Err fault) is = tt

-- words that ask nothing are told so
pub usage_run : (task : Option Task) (old : Outside) (taken taken_after : Stream) (write_faults write_faults_after code : ℕ) → None ≡ task
    → IsReported taken taken_after write_faults write_faults_after (text_of [] Usage) (code_of Usage) code ⊎ ((code ≡ 1) × Keeps taken taken_after)
    → IsRunOf task old old taken taken_after write_faults write_faults_after code
usage_run task old taken taken_after write_faults write_faults_after code none told =
    subst (λ (t : Option Task). IsRunOf t old old taken taken_after write_faults write_faults_after code) none
    (⊎_elim (λ reported. inl (Usage, record { usage = refl; left = refl; stock = refl }, reported)) (λ (memory : (code ≡ 1) × Keeps taken taken_after). inr (memory.0, memory.1, λ _. inl refl)) told)

-- ---- a run in which all is in order

-- all that the source had was read
all_read : (old new : Stream) (script : List ℕ) → IsTrue old.told → WasRead old new script → old.bytes ≡ script
all_read old new script told read = read.given told ∙ ap (λ (rest : List ℕ). script ++ rest) (read.end told) ∙ append-nil script

-- a sound pool with low numbers has no damage
no_damage : (gave : Gave) (damage : Damage) → WasSound gave → IsPlayedAs 0 0 [] [] (Damaged damage) gave → ⊥
no_damage gave damage sound is =
    let s : State = sound.1.0 in
    let stands : StandsFor gave.shape gave.tape.start s = sound.1.1 in
    let found = is.1.read sound.0 in
    let same : s.body ≡ found.0 = one_root gave.tape.start s.body found.0 stands.stands.root found.1 in
    let read : read_state gave.shape gave.tape.start found.0 ≡ Ok s = ap (read_state gave.shape gave.tape.start) (sym same) ∙ read_only gave.shape gave.tape.start s stands.state sound.1.2 stands.stands.holds in
    differ (sym found.2 ∙ read)
  where
    differ : {x : Damage} {y : State} → ◌≡◌ {A = Result State Damage} (Err x) (Ok y) → ⊥
    differ e = cc

-- and it is a pool
no_none : (gave : Gave) → WasSound gave → IsPlayedAs 0 0 [] [] NoPool gave → ⊥
no_none gave sound is =
    let stands = sound.1.1 in
    is.1 sound.0 stands.state.size sound.1.0.body stands.stands.root.here

module _ (old new : Outside) (name : List ℕ) (write_faults write_faults_after : ℕ) (orderly : IsOrderly old new name write_faults write_faults_after) where
  -- the set that was handed back was sound
  sound_of : (gave : Gave) → IsReturn old.stock new.stock name gave → WasSound gave
  sound_of gave back = orderly.sound gave (ap (λ (s : Stock). s.gives) (back.stock orderly.shelf_told))

  -- the script was played, and the set taken back
  played_code : (ended : Ended) → IsCause old new name ended → code_of ended ≡ 0
  played_code Usage cause = absurd cause
  played_code ReadFault cause = absurd (orderly.no_read_fault cause.0)
  played_code TooLarge cause = absurd (omega (arith, cause.0 orderly.source_told, orderly.few_bytes))
  played_code (BadLine line) (script, bad) =
      absurd (none_some (sym (subst (λ (bytes : List ℕ). first_bad (name ∷ []) (texts_of bytes) ≡ None) (all_read old.left new.left script orderly.source_told bad.read) orderly.good) ∙ bad.first))
    where
      none_some : {bad : ℕ × ℕ} → ◌≡◌ {A = Option (ℕ × ℕ)} None (Some bad) → ⊥
      none_some e = cc
  played_code Missing (script, was) = absurd (true_false (sym orderly.there ∙ was.pooled.0 orderly.shelf_told)) where
    true_false : true ≡ false → ⊥
    true_false e = cc
  played_code DiskFault (script, was) = absurd (orderly.no_shelf_fault was.pooled.0)
  played_code NoPool (script, was) = absurd (no_none was.pooled.0 (sound_of was.pooled.0 was.pooled.2) was.pooled.3)
  played_code (Damaged damage) (script, was) = absurd (no_damage was.pooled.0 damage (sound_of was.pooled.0 was.pooled.2) was.pooled.3)
  played_code PoolExists cause = absurd cause
  played_code OtherSize cause = absurd cause
  played_code (Created given) cause = absurd cause
  played_code (Played text true) cause = refl
  played_code (Played text false) (script, was) = absurd (orderly.no_shelf_fault (was.pooled.3.2 refl))

  -- and the text was reported
  reported_code : (taken taken_after : Stream) (text : List ℕ) (planned code : ℕ) → planned ≡ 0 → IsReported taken taken_after write_faults write_faults_after text planned code → (code ≡ 0) ⊎ (code ≡ 1)
  reported_code taken taken_after text planned code none reported =
      ⊎_elim (λ whole. inl (whole.0 ∙ none)) (λ cut. ⊎_elim (λ failed. absurd (orderly.no_write_fault failed.1)) (λ memory. inr memory) cut.0) reported

-- where all is in order, the status is 0, or memory was wanting
pub orderly_run : (words : List (List ℕ)) (old new : Outside) (taken taken_after : Stream) (write_faults write_faults_after code : ℕ) → IsRun words old new taken taken_after write_faults write_faults_after code
    → IsComplete words old new write_faults write_faults_after code
orderly_run words old new taken taken_after write_faults write_faults_after code run name asks orderly = ⊎_elim
    (λ (ended : (e : Ended) × IsEnded old new (task_of words) e × IsReported taken taken_after write_faults write_faults_after _ (code_of e) code).
    reported_code old new name write_faults write_faults_after orderly taken taken_after _ (code_of ended.0) code
    (played_code old new name write_faults write_faults_after orderly ended.0 (subst (λ (task : Option Task). IsEnded old new task ended.0) asks ended.1)) ended.2)
    (λ memory. inr memory.0)
    run
