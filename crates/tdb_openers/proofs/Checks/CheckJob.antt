-- A turn of a check that is ready for it, in the words of the law.
use Rattle.std.proofs.Common.{Result, Ok, Err, IfOk, ◌≡◌, ℕ, ◌+◌, ◌≤◌, List, [], Bool, true, false, refl, sym, ◌∙◌, ap, subst, arith}
use Rattle.std.specs.Prelude.{◌&&◌}
use Rattle.tdb_words.specs.Word.{word}
use Rattle.tdb_space.specs.Form.{Form}
use Rattle.tdb_space.specs.Extents.{HandPair}
use Rattle.tdb_space.specs.Accepted.{AcceptWith}
use Rattle.tdb_space.proofs.Stays.Changes.{changes_none}
use Rattle.tdb_locks.specs.HeldLocks.{HeldLocks, AreCounts}
use Rattle.tdb_locks.specs.declared.piece.Piece.{Piece}
use Rattle.tdb_locks.specs.declared.turn.Turn.{Turn}
use Rattle.tdb_locks.specs.declared.turn.Turn.TheVariants as Turns
use Rattle.tdb_law.specs.Commands as Law
use Rattle.tdb_law.specs.Commands.{is_done}
use Rattle.tdb_law.specs.Commands.Command.{OnMap}
use Rattle.tdb_law.specs.Commands.MapCommand.{Check}
use Rattle.tdb_law.specs.Openers.{View}
use Rattle.tdb_law.specs.Held.{kept}
use Rattle.tdb_law.specs.Rows.{map_locks}
use Rattle.tdb_law.specs.World.{HasFewChains}
use Rattle.tdb_law.specs.Counting.{raised}
use Rattle.tdb_law.specs.Effects.{task_left}
use Rattle.tdb_law.specs.Turned.{number_next}
use Rattle.tdb_law.specs.Images.{image_map}
use Rattle.tdb_commands.specs.InLaw.{law_turn}
use Rattle.tdb_steps.specs.Holdings.{HoldsBefore, LocksTurned}
use Rattle.tdb_steps.specs.LockRows.{locks_in, AllStandAlone}
use Rattle.tdb_steps.specs.Machines.{MapRow, MapTurned, number_after}
use Rattle.tdb_steps.specs.PlainCommands.{turn_of}
use Rattle.tdb_commands.specs.declared.options.Options.{Options}
use Rattle.tdb_openers.specs.declared.job.Job.TheVariants as Jobs
use Rattle.tdb_openers.specs.declared.job.Checking.{Checking}
use Rattle.tdb_openers.specs.declared.job.Checking.TheVariants.{Begun, Records, FreeList, Counted}
use Rattle.tdb_openers.specs.Openers.{AtRest, own_with, law_task, CheckAfter, TaskStands, JobKnows}
use Rattle.tdb_openers.specs.Turning.{TurnsLocks, TurnsFile, ImageBefore, TurnsImage, resting}
use Rattle.tdb_openers.specs.Jobs.{JobIsReady, JobTurned, task_after}
use Rattle.tdb_openers.specs.Checked.{check_locks, CheckLeaves, HasCounted, HasKeys}
use Rattle.tdb_openers.proofs.Checks.CheckReady.{check_alone, check_before}
use Rattle.tdb_openers.proofs.PlainTurns.PlainTurned.{plain_locks, plain_effect, plain_number, Effected}
use Rattle.tdb_openers.proofs.Joining.Recounted.{turn_is}
use Rattle.tdb_openers.proofs.Checks.Keys.{keys_are_counted}

-- what holds of an answer by three facts of it, and by four
pub of_three : {V F : Type 0} (r : Result V F) (P Q R S : V → Type 0) → ((v : V) → P v → Q v → R v → S v) → IfOk r P → IfOk r Q → IfOk r R → IfOk r S
of_three (Ok v) P Q R S all p q r = all v p q r
of_three (Err e) P Q R S all p q r = tt

pub of_four : {V F : Type 0} (r : Result V F) (P Q R S U : V → Type 0) → ((v : V) → P v → Q v → R v → S v → U v) → IfOk r P → IfOk r Q → IfOk r R → IfOk r S → IfOk r U
of_four (Ok v) P Q R S U all p q r s = all v p q r s
of_four (Err e) P Q R S U all p q r s = tt

-- a check raises no number
raised_none : (done counting : Bool) (q : ℕ) → raised (done && (false && counting)) q ≡ q
raised_none true counting q = refl
raised_none false counting q = refl

number_stays : (counting : Bool) (turn : Law.Turn) (q : ℕ) → q ≡ number_after counting Check turn q
number_stays counting Law.Turn.Step q = refl
number_stays counting (Law.Turn.Blocked o byte) q = refl
number_stays counting (Law.Turn.Ends r) q = sym (raised_none (is_done r) counting q)

left_is : (e : Checking) (n : ℕ) (turn : Turn) → task_left (OnMap Check) n (law_turn turn) ≡ law_task (task_after (Jobs.Check e) n (law_turn turn))
left_is e n Turns.Step = refl
left_is e n (Turns.Blocked o byte) = refl
left_is e n (Turns.Done r) = refl

-- what a check knows has as many keys as the map of the image
pub has_keys : (f : Form) (a : List ℕ) (d : Checking) → JobKnows f a (Jobs.Check d) → HasKeys d (image_map f a)
has_keys f a Begun known = tt
has_keys f a Records known = tt
has_keys f a FreeList known = tt
has_keys f a (Counted keys) known = known

-- a check that has just counted
counted_knows : (f : Form) (a : List ℕ) (e : Checking) → AcceptWith f a [] → HasCounted f a e → JobKnows f a (Jobs.Check e)
counted_knows f a Begun A H = tt
counted_knows f a Records A H = tt
counted_knows f a FreeList A H = tt
counted_knows f a (Counted keys) A H = H ∙ sym (keys_are_counted f a [] A)

-- a check that hasn't counted yet knows nothing
early_knows : (f : Form) (a : List ℕ) (e : Checking) (n : ℕ) → CheckAfter e (n + 1) → n ≤ 1 → JobKnows f a (Jobs.Check e)
early_knows f a Begun n is early = tt
early_knows f a Records n is early = tt
early_knows f a FreeList n is early = tt
early_knows f a (Counted keys) n is early = absurd (omega (arith, is, early))

-- a check that counts next knows that the image is accepted, with no record held
pub accepted_before : (f : Form) (a : List ℕ) (d : Checking) (others : List HandPair) → ImageBefore f (Jobs.Check d) a others → d ≡ FreeList → AcceptWith f a []
accepted_before f a d others B is =
    let C = subst (λ z. ImageBefore f (Jobs.Check z) a others) is B in
    subst (AcceptWith f a) C.may_be_out C.accepted

step_knows : (f : Form) (a : List ℕ) (d e : Checking) (n : ℕ) (others : List HandPair) → CheckAfter d n → ImageBefore f (Jobs.Check d) a others → (n + 1 ≤ 3) × CheckAfter e (n + 1)
    → (AcceptWith f a [] → d ≡ FreeList → HasCounted f a e) → JobKnows f a (Jobs.Check e)
step_knows f a Begun e n others is B next counted = early_knows f a e n next.1 (omega (arith, is))
step_knows f a Records e n others is B next counted = early_knows f a e n next.1 (omega (arith, is))
step_knows f a FreeList e n others is B next counted =
    let A = subst (AcceptWith f a) B.may_be_out B.accepted in
    counted_knows f a e A (counted A refl)
step_knows f a (Counted keys) e n others is B next counted = absurd (let late = next.0 in omega (arith, is, late))

module _ (f : Form) (few : HasFewChains f) (options : Options) (live : Bool) (held : HeldLocks) (rest : AtRest) (counts : AreCounts held.chains) (d : Checking) (n who owner size : ℕ) (ps : List Piece)
    (J : JobIsReady f (own_with options live held rest) (resting rest) (Jobs.Check d) n who owner size ps) where
  -- its locks stand alone, and it holds what it is to hold
  pub check_ready_alone : AllStandAlone held owner ps check_locks
  check_ready_alone = subst (λ o. AllStandAlone held o ps check_locks) (sym J.number) (check_alone f few options live held rest counts n who ps J.stands.0 J.holds)

  pub check_ready_holds : HoldsBefore held (kept f (own_with options live held rest) (resting rest)) owner n ps check_locks
  check_ready_holds = subst (λ o. HoldsBefore held (kept f (own_with options live held rest) (resting rest)) o n ps check_locks) (sym J.number) (check_before f few options live held rest counts n who ps J.stands.0 J.holds)

  in_law : (new : List Piece) (turn : Law.Turn) → LocksTurned (locks_in check_locks) (kept f (own_with options live held rest) (resting rest)) owner n ps new turn
      → LocksTurned (map_locks f Check) (kept f (own_with options live held rest) (resting rest)) (who + 1) n ps new turn
  in_law new turn L = subst (λ o. LocksTurned (locks_in check_locks) (kept f (own_with options live held rest) (resting rest)) o n ps new turn) J.number L

  stands_after : (e : Checking) (longer : ℕ) (turn : Turn) → CheckLeaves d e turn → TaskStands f (own_with options live held rest) (task_after (Jobs.Check e) n (law_turn turn)) longer
  stands_after e longer Turns.Step leaves = (J.stands.0, (leaves n J.stands.1).1)
  stands_after e longer (Turns.Blocked o byte) leaves = (J.stands.0, subst (λ z. CheckAfter z n) (sym leaves) J.stands.1)
  stands_after e longer (Turns.Done r) leaves = tt

  -- whatever the bytes are
  pub check_turned : (e : Checking) (new : List Piece) (longer : ℕ) (turn : Turn) → CheckLeaves d e turn → MapRow Check n (turn_of turn)
      → LocksTurned (locks_in check_locks) (kept f (own_with options live held rest) (resting rest)) owner n ps new (turn_of turn)
      → JobTurned f (own_with options live held rest) (own_with options live held rest) (resting rest) (Jobs.Check d) (Jobs.Check e) n who longer ps new (law_turn turn)
  check_turned e new longer turn leaves row L = record {
    locks = subst (λ z. TurnsLocks f (own_with options live held rest) (own_with options live held rest) (resting rest) (OnMap Check) n z who ps new (law_turn turn)) (left_is e n turn)
        (subst (λ t. TurnsLocks f (own_with options live held rest) (own_with options live held rest) (resting rest) (OnMap Check) n (task_left (OnMap Check) n t) who ps new t) (turn_is turn)
        (plain_locks f Check options live held rest n who ps J.stands.0 J.holds new (turn_of turn) (in_law new (turn_of turn) L) row));
    stands = stands_after e longer turn leaves;
    lives = λ t e. refl;
  }

  -- of the bytes, which it leaves
  pub check_file : (v : View) (new : List Piece) (turn : Turn) (a : List ℕ) → LocksTurned (locks_in check_locks) (kept f (own_with options live held rest) (resting rest)) owner n ps new (turn_of turn)
      → MapTurned f a Check n (image_map f a) (turn_of turn)
      → TurnsFile f (own_with options live held rest) (own_with options live held rest) (resting rest) v (OnMap Check) n who ps a a (law_turn turn)
  check_file v new turn a L M = record {
    effect = subst (Effected f Check options live held rest n who ps J.stands.0 J.holds v a a) (turn_is turn)
        (plain_effect f Check options live held rest n who ps J.stands.0 J.holds v a a (turn_of turn) (in_law new (turn_of turn) L).rightly M);
    number = number_stays options.seqnum (turn_of turn) (word f.order a 48)
        ∙ plain_number f Check options live held rest n who ps J.stands.0 J.holds (turn_of turn) (word f.order a 48)
        ∙ ap (λ t. number_next f (OnMap Check) n (own_with options live held rest) t (word f.order a 48) 0) (turn_is turn);
  }

  pub check_image : (e : Checking) (turn : Turn) (a : List ℕ) (others : List HandPair) → CheckLeaves d e turn → ImageBefore f (Jobs.Check d) a others → (AcceptWith f a [] → d ≡ FreeList → HasCounted f a e)
      → TurnsImage f (record { steps = n; job = Jobs.Check d }) (task_after (Jobs.Check e) n (law_turn turn)) a a others
  check_image e Turns.Step a others leaves B counted = record { accepted = B.accepted; knows = step_knows f a d e n others J.stands.1 B (leaves n J.stands.1) counted; only = changes_none f a _ }
  check_image e (Turns.Blocked o byte) a others leaves B counted = record { accepted = B.accepted; knows = subst (λ z. JobKnows f a (Jobs.Check z)) (sym leaves) B.knows; only = changes_none f a _ }
  check_image e (Turns.Done r) a others leaves B counted = record { accepted = B.accepted; knows = tt; only = changes_none f a _ }
