-- How each command on explicit locks ends, by what its lock came to.
use Rattle.std.proofs.Common.{◌≡◌, ℕ, ◌+◌, ◌*◌, ◌-◌, ◌^◌, ◌<◌, ◌≤◌, ◌⊎◌, List, Bool, true, false, ◌==◌, Option, None, Some, is_none, is_some, nat_lt, nat_le, sum, refl, sym, ◌∙◌, ap, inl, inr, arith, subst, le_refl}
use Rattle.std.specs.Prelude.{◌&&◌, ◌||◌, IfSome, Result, Ok, Err, OnOk, OnErr, IfErr, MatchResult}
use Rattle.std.proofs.lemmas.Bool.{cases_Bool, cases_eq, cases_lt, lt-ltb, le-leb, eq-eqb}
use Rattle.std.proofs.lemmas.Bool.Decides.{nat_tests}
use Rattle.std.specs.Map.{values_of}
use Rattle.tdb_space.specs.Form.{Form}
use Rattle.tdb_space.specs.Pairs.{home}
use Rattle.tdb_space.proofs.Pairs.Maps.{home_below}
use Rattle.tdb_locks.specs.HeldLocks.{HeldLocks, AreCounts, Raises, Lowers, SetsAll, count_of, total_of}
use Rattle.tdb_locks.specs.declared.kind.Kind.{Kind}
use Rattle.tdb_locks.specs.declared.kind.Kind.TheVariants.{Read, Write}
use Rattle.tdb_locks.specs.declared.locks.LockRefusal.{LockRefusal}
use Rattle.tdb_locks.specs.declared.locks.LockRefusal.TheVariants.{Conflict, Memory}
use Rattle.tdb_locks.specs.declared.piece.Piece.{Piece}
use Rattle.tdb_locks.specs.declared.turn.Reply.{Reply}
use Rattle.tdb_locks.specs.declared.turn.Turn.{Turn}
use Rattle.tdb_locks.specs.declared.turn.Turn.TheVariants as Turned
use Rattle.tdb_law.specs.Commands as Law
use Rattle.tdb_law.specs.Commands.{LockCommand}
use Rattle.tdb_law.specs.Commands.LockCommand.{ChainLock, ChainLockNb, ChainUnlock, LockAll, LockAllRead, UnlockAll}
use Rattle.tdb_law.specs.Openers.{count_at, count_less, all_more, all_less}
use Rattle.tdb_law.specs.Held.{kept, covers}
use Rattle.tdb_law.proofs.Locks.{covers_within}
use Rattle.tdb_law.specs.World.{HasFewChains}
use Rattle.tdb_commands.specs.InLaw.{law_turn}
use Rattle.tdb_steps.specs.LockRows.{lock_of, strength_of, is_covered, covers_all, IsLetGo}
use Rattle.tdb_steps.proofs.Holdings.{want, let_go_at, others_changed}
use Rattle.tdb_steps.specs.Holdings.{table_of, strength, KeptBeside}
use Rattle.tdb_law.specs.Rows.{all_end}
use Rattle.tdb_commands.specs.declared.options.Options.{Options}
use Rattle.tdb_openers.specs.Openers.{AtRest, own_with, all_of}
use Rattle.tdb_openers.specs.Given.{holds_chains, reads_records, unlock_told, IsWellHeld}
use Rattle.tdb_openers.specs.Locked.{IsTaken, IsInTheWay, SameHeld, MayLock, LockingTurned, chain_row, all_row, waiting, at_once, more_of, less_of}
use Rattle.tdb_openers.specs.Turning.{StandsWell, resting}
use Rattle.tdb_openers.proofs.Walks.Rests.{stand_nowhere}
use Rattle.tdb_openers.proofs.ExplicitLocks.Owned.{own_count}
use Rattle.tdb_openers.proofs.ExplicitLocks.Keeping.{more_kept, less_kept, counted_kept, all_more_kept, all_less_kept, all_last_kept, IsAtMost}
use Rattle.tdb_openers.proofs.ExplicitLocks.Beside.{beside_chain, beside_all, kept_most, all_alone, all_below, all_past, no_counts, no_counts_at}
use Rattle.tdb_openers.proofs.ExplicitLocks.Changed.{own_raised, own_lowered, own_same, own_set}
use Rattle.tdb_openers.proofs.ExplicitLocks.Granted.{chain_granted, chain_nb_granted, all_granted, all_read_granted, unlock_all_granted, unchain_granted, not_told}
use Rattle.tdb_openers.proofs.ExplicitLocks.Lockings.{starved, taken, blocked, busied, freed, holds_kept}

module _ (f : Form) (options : Options) (live : Bool) (old new : HeldLocks) (rest : AtRest) (counts : AreCounts old.chains) (counts_after : AreCounts new.chains) (who : ℕ) (ps qs : List Piece) (key : List ℕ) where
  same_own : SameHeld old new → own_with options live new rest ≡ own_with options live old rest
  same_own S = own_same options live old new rest counts counts_after S.counts S.all

  beside : HasFewChains f → StandsWell f rest.shown rest.stands → reads_records old.all ≡ false → KeptBeside old (kept f (own_with options live old rest) (resting rest)) (chain_row (home f key))
  beside few K apart = beside_chain f few options live old rest counts K 0 (home f key) Write (home_below f key few.some) (λ e. apart)

  -- a lock of a chain that waits
  pub chain_ends : {A : Type 0} → MayLock f options live old rest (ChainLock key) who ps → (r : Result A LockRefusal) (turn : Turn) → OnOk r (IsTaken old (who + 1) ps qs (chain_row (home f key))) → OnOk r (Raises old new (home f key))
      → OnOk r (count_of old (home f key) < 2 ^ 32 - 1) → IfErr r (IsInTheWay ps (who + 1) (chain_row (home f key))) → OnErr r (qs ≡ ps) → OnErr r (SameHeld old new)
      → MatchResult r (λ _. turn ≡ Turned.Done Reply.Ok) (λ e. turn ≡ waiting e) → LockingTurned f options live old new rest (ChainLock key) who ps qs (law_turn turn)
  chain_ends M (Ok u) turn T R room refused same stays e =
      subst (λ t. LockingTurned f options live old new rest (ChainLock key) who ps qs (law_turn t)) (sym e)
      (taken f options live old new rest (ChainLock key) who ps qs M (chain_row (home f key)) refl refl (beside M.few M.holds.rests (chain_granted f options live old rest counts key M.granted)) T
      (own_raised options live old new rest counts counts_after (home f key) R room)
      (more_kept f (own_with options live old rest) (resting rest) refl (168 + 4 * home f key) (let low = home_below f key M.few.some in omega (arith, low))))
  chain_ends M (Err (Conflict o byte kind)) turn T R room refused same stays e =
      subst (λ t. LockingTurned f options live old new rest (ChainLock key) who ps qs (law_turn t)) (sym e)
      (blocked f options live old new rest (ChainLock key) who ps qs M (chain_row (home f key)) refl refl (beside M.few M.holds.rests (chain_granted f options live old rest counts key M.granted)) refl o byte kind refused (same_own stays) same)
  chain_ends M (Err Memory) turn T R room refused same stays e =
      subst (λ t. LockingTurned f options live old new rest (ChainLock key) who ps qs (law_turn t)) (sym e)
      (starved f options live old new rest (ChainLock key) who ps qs M refl (same_own stays) same)

  -- and one that doesn't
  pub chain_nb_ends : {A : Type 0} → MayLock f options live old rest (ChainLockNb key) who ps → (r : Result A LockRefusal) (turn : Turn) → OnOk r (IsTaken old (who + 1) ps qs (chain_row (home f key))) → OnOk r (Raises old new (home f key))
      → OnOk r (count_of old (home f key) < 2 ^ 32 - 1) → IfErr r (IsInTheWay ps (who + 1) (chain_row (home f key))) → OnErr r (qs ≡ ps) → OnErr r (SameHeld old new)
      → MatchResult r (λ _. turn ≡ Turned.Done Reply.Ok) (λ e. turn ≡ at_once e) → LockingTurned f options live old new rest (ChainLockNb key) who ps qs (law_turn turn)
  chain_nb_ends M (Ok u) turn T R room refused same stays e =
      subst (λ t. LockingTurned f options live old new rest (ChainLockNb key) who ps qs (law_turn t)) (sym e)
      (taken f options live old new rest (ChainLockNb key) who ps qs M (chain_row (home f key)) refl refl (beside M.few M.holds.rests (chain_nb_granted f options live old rest counts key M.granted)) T
      (own_raised options live old new rest counts counts_after (home f key) R room)
      (more_kept f (own_with options live old rest) (resting rest) refl (168 + 4 * home f key) (let low = home_below f key M.few.some in omega (arith, low))))
  chain_nb_ends M (Err (Conflict o byte kind)) turn T R room refused same stays e =
      subst (λ t. LockingTurned f options live old new rest (ChainLockNb key) who ps qs (law_turn t)) (sym e)
      (busied f options live old new rest key who ps qs M (chain_row (home f key)) refl refl (beside M.few M.holds.rests (chain_nb_granted f options live old rest counts key M.granted)) o byte kind refused (same_own stays) same)
  chain_nb_ends M (Err Memory) turn T R room refused same stays e =
      subst (λ t. LockingTurned f options live old new rest (ChainLockNb key) who ps qs (law_turn t)) (sym e)
      (starved f options live old new rest (ChainLockNb key) who ps qs M refl (same_own stays) same)

  abbrev pub ChainEnds : Type 0 → LockCommand → (LockRefusal → Turn) → ℕ → ℕ → Type 0
  ChainEnds A k refused owner chain = (r : Result A LockRefusal) (turn : Turn) → OnOk r (IsTaken old owner ps qs (chain_row chain)) → OnOk r (Raises old new chain)
      → OnOk r (count_of old chain < 2 ^ 32 - 1) → IfErr r (IsInTheWay ps owner (chain_row chain)) → OnErr r (qs ≡ ps) → OnErr r (SameHeld old new)
      → MatchResult r (λ _. turn ≡ Turned.Done Reply.Ok) (λ e. turn ≡ refused e) → LockingTurned f options live old new rest k who ps qs (law_turn turn)

  pub chain_ends_at : {A : Type 0} (owner chain : ℕ) → owner ≡ who + 1 → chain ≡ home f key → MayLock f options live old rest (ChainLock key) who ps → ChainEnds A (ChainLock key) waiting owner chain
  chain_ends_at {A} owner chain number here M = subst (λ o. ChainEnds A (ChainLock key) waiting o chain) (sym number) (subst (λ z. ChainEnds A (ChainLock key) waiting (who + 1) z) (sym here) (chain_ends M))

  pub chain_nb_ends_at : {A : Type 0} (owner chain : ℕ) → owner ≡ who + 1 → chain ≡ home f key → MayLock f options live old rest (ChainLockNb key) who ps → ChainEnds A (ChainLockNb key) at_once owner chain
  chain_nb_ends_at {A} owner chain number here M = subst (λ o. ChainEnds A (ChainLockNb key) at_once o chain) (sym number) (subst (λ z. ChainEnds A (ChainLockNb key) at_once (who + 1) z) (sym here) (chain_nb_ends M))

  -- a chain is let go
  pub unchain_ends : MayLock f options live old rest (ChainUnlock key) who ps → IsWellHeld old → Lowers old new (home f key) → IsLetGo new (who + 1) ps qs (chain_row (home f key)) → LockingTurned f options live old new rest (ChainUnlock key) who ps qs (Law.Turn.Ends Law.Reply.Done)
  unchain_ends M W L G = freed f options live old new rest (ChainUnlock key) who ps qs M refl lowered holds less (others_changed (is_covered new (chain_row (home f key))) ps qs (who + 1) _ _ None G.covered G.bare)
    where
      byte : ℕ
      byte = 168 + 4 * home f key

      low : home f key < f.chains
      low = home_below f key M.few.some

      some : 0 < count_of old (home f key)
      some = unchain_granted f options live old rest counts key M.granted

      lowered : own_with options live new rest ≡ count_less (own_with options live old rest) (168 + 4 * home f key)
      lowered = own_lowered options live old new rest counts counts_after (home f key) L

      reads : reads_records new.all ≡ false
      reads = ap reads_records L.all ∙ elim (cases_Bool (reads_records old.all)) [ inl e ↦ absurd (let none = no_counts old (W.apart e) (home f key) in omega (arith, none, some)) | inr e ↦ e ]

      K : KeptBeside new (kept f (own_with options live new rest) (resting rest)) (chain_row (home f key))
      K = beside_chain f M.few options live new rest counts_after M.holds.rests 0 (home f key) Write low (λ e. reads)

      at : (b : ℕ) → ((want (chain_row (home f key)) b ≤ kept f (own_with options live new rest) (resting rest) b) × (table_of qs (who + 1) b ≡ table_of ps (who + 1) b)) ⊎ ((kept f (own_with options live new rest) (resting rest) b ≡ 0) × (table_of qs (who + 1) b ≡ 0))
      at b = let_go_at new (kept f (own_with options live new rest) (resting rest)) (who + 1) ps qs (chain_row (home f key)) K G b

      less : (b : ℕ) → table_of qs (who + 1) b ≤ table_of ps (who + 1) b
      less b = elim (at b) [ inl w ↦ omega (arith, w.1) | inr w ↦ omega (arith, w.1) ]

      holds : (b : ℕ) → table_of qs (who + 1) b ≡ kept f (own_with options live new rest) (resting rest) b
      holds b = elim (at b) [
        | inr w ↦ omega (arith, w.0, w.1)
        | inl w ↦ elim (cases_eq b (168 + 4 * home f key)) [
          | inr differs ↦
              let was = holds_kept f options live old new rest (ChainUnlock key) who ps qs M b in
              let stays = ap (λ o. kept f o (resting rest) b) lowered ∙ less_kept f (own_with options live old rest) (resting rest) refl (168 + 4 * home f key) (omega (arith, low)) b differs in
              omega (arith, w.1, was, stays)
          | inl same ↦
              let was = holds_kept f options live old new rest (ChainUnlock key) who ps qs M b in
              let here : 0 < count_at (own_with options live old rest) (168 + 4 * home f key) = let n = own_count options live old rest counts (home f key) in omega (arith, n, some) in
              let two = counted_kept f (own_with options live old rest) (resting rest) refl (168 + 4 * home f key) (omega (arith, low)) here in
              let there = ap (kept f (own_with options live old rest) (resting rest)) same in
              let most = kept_most f M.few options live new rest counts_after M.holds.rests b in
              let most_too = kept_most f M.few options live old rest counts M.holds.rests b in
              let over : covers (lock_of (chain_row (home f key))) b ≡ true = covers_within (lock_of (chain_row (home f key))) b (omega (arith, same)) (omega (arith, same)) in
              let wanted : want (chain_row (home f key)) b ≡ 2 = rw over refl in
              omega (arith, w.0, w.1, was, two, there, most, most_too, wanted)
        ]
      ]

-- the lock of all records once more, and once less, in the law's words
all_of_more : (all : Option (Kind × ℕ)) (kind : Kind) → all_of (Some (more_of all kind)) ≡ Some (all_more (all_of all) (strength_of kind))
all_of_more None kind = refl
all_of_more (Some all) kind = refl

all_of_less : (all : Option (Kind × ℕ)) → all_of (less_of all) ≡ all_less (all_of all)
all_of_less None = refl
all_of_less (Some (kind, n)) = elim (cases_lt 1 n) [
  | inl more ↦ let a : nat_lt 1 n ≡ true = lt-ltb 1 n more in let b : nat_le n 1 ≡ false = grind (arith, nat_tests) in rw (a, b) refl
  | inr one ↦ let a : nat_lt 1 n ≡ false = grind (arith, nat_tests) in let b : nat_le n 1 ≡ true = le-leb n 1 one in rw (a, b) refl
]

or_first_false : (a b : Bool) → a || b ≡ false → a ≡ false
or_first_false true b e = e
or_first_false false b e = refl

or_second_false : (a b : Bool) → a || b ≡ false → b ≡ false
or_second_false true b e = absurd (cc e)
or_second_false false b e = e

-- who neither holds a chain nor has a cursor does neither
neither : (held : HeldLocks) (rest : AtRest) → holds_chains held || is_some rest.shown ≡ false → (holds_chains held ≡ false) × (is_some rest.shown ≡ false)
neither held rest e = (or_first_false (holds_chains held) (is_some rest.shown) e, or_second_false (holds_chains held) (is_some rest.shown) e)

covered_none : (all : Option (Kind × ℕ)) (kind : Kind) (chains : Bool) → covers_all all kind ≡ false → (kind ≡ Write → reads_records all ≡ false) → is_none all && chains ≡ false → chains ≡ false
covered_none None kind chains bare apart e = e
covered_none (Some (Write, n)) kind chains bare apart e = absurd (cc bare)
covered_none (Some (Read, n)) Read chains bare apart e = absurd (cc bare)
covered_none (Some (Read, n)) Write chains bare apart e = absurd (let never = apart refl in cc never)

at_most_write : (all : Option (Kind × ℕ)) → reads_records all ≡ false → IsAtMost 2 (all_of all)
at_most_write None e = tt
at_most_write (Some (Read, n)) e = absurd (cc e)
at_most_write (Some (Write, n)) e = le_refl 2

at_most_read : (all : Option (Kind × ℕ)) → IsAtMost 1 (all_of all)
at_most_read None = tt
at_most_read (Some (Read, n)) = le_refl 1
at_most_read (Some (Write, n)) = omega arith

-- who may let go of all records holds them, and with the last time neither holds a chain nor has a cursor
last_of : (held : HeldLocks) (walks : Bool) (all : Option (Kind × ℕ)) → IfSome all (λ a. 0 < a.1) → unlock_told held walks all ≡ None → (a : Kind × ℕ) × (all ≡ Some a) × ((1 < a.1) ⊎ ((a.1 ≤ 1) × (holds_chains held || walks ≡ false)))
last_of held walks None taken e = absurd (cc e)
last_of held walks (Some a) taken e = (a, refl, elim (cases_lt 1 a.1) [ inl more ↦ inl more | inr one ↦ inr (one, none one) ])
  where
    none : a.1 ≤ 1 → holds_chains held || walks ≡ false
    none one = let is : (a.1 == 1) ≡ true = eq-eqb a.1 1 (omega (arith, one, taken)) in let e = not_told ((a.1 == 1) && (holds_chains held || walks)) _ e in sym (ap (λ t. t && (holds_chains held || walks)) is) ∙ e

still_covers : (a : Kind × ℕ) → 1 < a.1 → covers_all (less_of (Some a)) Read ≡ true
still_covers (Read, n) more = rw (lt-ltb 1 n more) refl
still_covers (Write, n) more = rw (lt-ltb 1 n more) refl

no_longer : (a : Kind × ℕ) → a.1 ≤ 1 → covers_all (less_of (Some a)) Read ≡ false
no_longer a one = let e : nat_lt 1 a.1 ≡ false = grind (arith, nat_tests) in rw e refl

module _ (f : Form) (options : Options) (live : Bool) (old new : HeldLocks) (rest : AtRest) (counts : AreCounts old.chains) (who : ℕ) (ps qs : List Piece) where
  set_own : (kind : Kind) → SetsAll old new (Some (more_of old.all kind)) → own_with options live new rest ≡ record (own_with options live old rest) { all = Some (all_more (all_of old.all) (strength_of kind)) }
  set_own kind S = own_set options live old new rest (Some (more_of old.all kind)) S ∙ ap (λ o. record (own_with options live old rest) { all = o }) (all_of_more old.all kind)

  -- a lock of all records
  pub all_ends : {A : Type 0} → MayLock f options live old rest LockAll who ps → (r : Result A LockRefusal) (turn : Turn) → OnOk r (IsTaken old (who + 1) ps qs (all_row Write)) → OnOk r (SetsAll old new (Some (more_of old.all Write)))
      → IfErr r (IsInTheWay ps (who + 1) (all_row Write)) → OnErr r (qs ≡ ps) → OnErr r (new ≡ old)
      → MatchResult r (λ _. turn ≡ Turned.Done Reply.Ok) (λ e. turn ≡ waiting e) → LockingTurned f options live old new rest LockAll who ps qs (law_turn turn)
  all_ends M (Ok u) turn T S refused same stays e =
      let g = all_granted f options live old rest counts M.granted in
      let apart = or_first_false (reads_records old.all) (is_none old.all && (holds_chains old || is_some rest.shown)) g in
      let alone = or_second_false (reads_records old.all) (is_none old.all && (holds_chains old || is_some rest.shown)) g in
      subst (λ t. LockingTurned f options live old new rest LockAll who ps qs (law_turn t)) (sym e)
      (taken f options live old new rest LockAll who ps qs M (all_row Write) refl refl (beside_all f M.few options live old rest counts M.holds.rests 0 Write (λ _. apart) (λ bare. neither old rest (covered_none old.all Write (holds_chains old || is_some rest.shown) bare (λ _. apart) alone))) T
      (set_own Write S) (all_more_kept f (own_with options live old rest) (resting rest) refl 2 (at_most_write old.all apart)))
  all_ends M (Err (Conflict o byte kind)) turn T S refused same stays e =
      let g = all_granted f options live old rest counts M.granted in
      let apart = or_first_false (reads_records old.all) (is_none old.all && (holds_chains old || is_some rest.shown)) g in
      let alone = or_second_false (reads_records old.all) (is_none old.all && (holds_chains old || is_some rest.shown)) g in
      subst (λ t. LockingTurned f options live old new rest LockAll who ps qs (law_turn t)) (sym e)
      (blocked f options live old new rest LockAll who ps qs M (all_row Write) refl refl (beside_all f M.few options live old rest counts M.holds.rests 0 Write (λ _. apart) (λ bare. neither old rest (covered_none old.all Write (holds_chains old || is_some rest.shown) bare (λ _. apart) alone))) refl o byte kind refused
      (ap (λ h. own_with options live h rest) stays) same)
  all_ends M (Err Memory) turn T S refused same stays e =
      subst (λ t. LockingTurned f options live old new rest LockAll who ps qs (law_turn t)) (sym e) (starved f options live old new rest LockAll who ps qs M refl (ap (λ h. own_with options live h rest) stays) same)

  pub all_read_ends : {A : Type 0} → MayLock f options live old rest LockAllRead who ps → (r : Result A LockRefusal) (turn : Turn) → OnOk r (IsTaken old (who + 1) ps qs (all_row Read)) → OnOk r (SetsAll old new (Some (more_of old.all Read)))
      → IfErr r (IsInTheWay ps (who + 1) (all_row Read)) → OnErr r (qs ≡ ps) → OnErr r (new ≡ old)
      → MatchResult r (λ _. turn ≡ Turned.Done Reply.Ok) (λ e. turn ≡ waiting e) → LockingTurned f options live old new rest LockAllRead who ps qs (law_turn turn)
  all_read_ends M (Ok u) turn T S refused same stays e =
      let alone = all_read_granted f options live old rest counts M.granted in
      subst (λ t. LockingTurned f options live old new rest LockAllRead who ps qs (law_turn t)) (sym e)
      (taken f options live old new rest LockAllRead who ps qs M (all_row Read) refl refl (beside_all f M.few options live old rest counts M.holds.rests 0 Read (λ k. absurd (cc k)) (λ bare. neither old rest (covered_none old.all Read (holds_chains old || is_some rest.shown) bare (λ k. absurd (cc k)) alone))) T
      (set_own Read S) (all_more_kept f (own_with options live old rest) (resting rest) refl 1 (at_most_read old.all)))
  all_read_ends M (Err (Conflict o byte kind)) turn T S refused same stays e =
      let alone = all_read_granted f options live old rest counts M.granted in
      subst (λ t. LockingTurned f options live old new rest LockAllRead who ps qs (law_turn t)) (sym e)
      (blocked f options live old new rest LockAllRead who ps qs M (all_row Read) refl refl (beside_all f M.few options live old rest counts M.holds.rests 0 Read (λ k. absurd (cc k)) (λ bare. neither old rest (covered_none old.all Read (holds_chains old || is_some rest.shown) bare (λ k. absurd (cc k)) alone))) refl o byte kind refused
      (ap (λ h. own_with options live h rest) stays) same)
  all_read_ends M (Err Memory) turn T S refused same stays e =
      subst (λ t. LockingTurned f options live old new rest LockAllRead who ps qs (law_turn t)) (sym e) (starved f options live old new rest LockAllRead who ps qs M refl (ap (λ h. own_with options live h rest) stays) same)

  -- all records are let go
  pub unlock_all_ends : MayLock f options live old rest UnlockAll who ps → IsWellHeld old → SetsAll old new (less_of old.all) → IsLetGo new (who + 1) ps qs (all_row Read) → LockingTurned f options live old new rest UnlockAll who ps qs (Law.Turn.Ends Law.Reply.Done)
  unlock_all_ends M W S G = freed f options live old new rest UnlockAll who ps qs M refl less_own (λ b. (at b).0) (λ b. (at b).1) (others_changed (is_covered new (all_row Read)) ps qs (who + 1) _ _ None G.covered G.bare)
    where
      less_own : own_with options live new rest ≡ record (own_with options live old rest) { all = all_less (all_of old.all) }
      less_own = own_set options live old new rest (less_of old.all) S ∙ ap (λ o. record (own_with options live old rest) { all = o }) (all_of_less old.all)

      last : (a : Kind × ℕ) × (old.all ≡ Some a) × ((1 < a.1) ⊎ ((a.1 ≤ 1) × (holds_chains old || is_some rest.shown ≡ false)))
      last = last_of old (is_some rest.shown) old.all W.taken (unlock_all_granted f options live old rest counts M.granted)

      was : (b : ℕ) → table_of ps (who + 1) b ≡ kept f (own_with options live old rest) (resting rest) b
      was b = holds_kept f options live old new rest UnlockAll who ps qs M b

      at : (b : ℕ) → (table_of qs (who + 1) b ≡ kept f (own_with options live new rest) (resting rest) b) × (table_of qs (who + 1) b ≤ table_of ps (who + 1) b)
      at b = elim last.2 [
        | inl more ↦
            let same : qs ≡ ps = G.covered (ap (λ o. covers_all o Read) (S.now ∙ ap less_of last.1) ∙ still_covers last.0 more) in
            let stays = ap (λ o. kept f o (resting rest) b) less_own ∙ all_less_kept f (own_with options live old rest) (resting rest) refl (record { strength = strength_of last.0.0; count = last.0.1 }) (ap all_of last.1) more b in
            let e = ap (λ t. table_of t (who + 1) b) same in
            let w = was b in
            (omega (arith, stays, e, w), omega (arith, e))
        | inr one ↦
            let both = neither old rest one.1 in
            let bare = ap (λ o. covers_all o Read) (S.now ∙ ap less_of last.1) ∙ no_longer last.0 one.0 in
            let gone = ap (λ o. kept f o (resting rest) b) less_own ∙ all_last_kept f (own_with options live old rest) (resting rest) refl (record { strength = strength_of last.0.0; count = last.0.1 }) (ap all_of last.1) one.0 b (no_counts_at f M.few options live old rest counts M.holds.rests both.0 b) (stand_nowhere f rest.shown rest.stands M.holds.rests both.1) in
            let w = was b ∙ all_alone f M.few options live old rest counts M.holds.rests both.0 both.1 b in
            elim (cases_lt b 168) [
              | inl low ↦ let e = ap strength ((G.bare bare).below b low) in let z = all_below old.all b low in (omega (arith, gone, w, e, z), omega (arith, e))
              | inr from ↦ elim (cases_lt b all_end) [
                | inl to ↦ let e = ap strength ((G.bare bare).inside b from to) in (omega (arith, gone, e), omega (arith, e))
                | inr past ↦ let e = ap strength ((G.bare bare).above b past) in let z = all_past old.all b past in (omega (arith, gone, w, e, z), omega (arith, e))
              ]
            ]
      ]

  abbrev pub AllEnds : Type 0 → LockCommand → Kind → ℕ → Type 0
  AllEnds A k kind owner = (r : Result A LockRefusal) (turn : Turn) → OnOk r (IsTaken old owner ps qs (all_row kind)) → OnOk r (SetsAll old new (Some (more_of old.all kind)))
      → IfErr r (IsInTheWay ps owner (all_row kind)) → OnErr r (qs ≡ ps) → OnErr r (new ≡ old)
      → MatchResult r (λ _. turn ≡ Turned.Done Reply.Ok) (λ e. turn ≡ waiting e) → LockingTurned f options live old new rest k who ps qs (law_turn turn)

  pub all_ends_at : {A : Type 0} (owner : ℕ) → owner ≡ who + 1 → MayLock f options live old rest LockAll who ps → AllEnds A LockAll Write owner
  all_ends_at {A} owner number M = subst (AllEnds A LockAll Write) (sym number) (all_ends M)

  pub all_read_ends_at : {A : Type 0} (owner : ℕ) → owner ≡ who + 1 → MayLock f options live old rest LockAllRead who ps → AllEnds A LockAllRead Read owner
  all_read_ends_at {A} owner number M = subst (AllEnds A LockAllRead Read) (sym number) (all_read_ends M)

-- how well locks are held after a lock that came to this
pub holds_after : {A : Type 0} (old new : HeldLocks) (chain : ℕ) (r : Result A LockRefusal) → IsWellHeld old → AreCounts new.chains → total_of new < 2 ^ 64 - 1 → reads_records old.all ≡ false → OnOk r (Raises old new chain) → OnErr r (SameHeld old new) → IsWellHeld new
holds_after old new chain (Ok u) W counts few reads R S = record { counts = counts; few = few; taken = subst (λ o. IfSome o (λ a. 0 < a.1)) (sym R.all) W.taken; apart = λ e. absurd (let c : ◌≡◌ {A = Bool} true false = sym e ∙ ap reads_records R.all ∙ reads in cc c) }
holds_after old new chain (Err e) W counts few reads R S = record { counts = counts; few = few; taken = subst (λ o. IfSome o (λ a. 0 < a.1)) (sym S.all) W.taken; apart = λ e. absurd (let c : ◌≡◌ {A = Bool} true false = sym e ∙ ap reads_records S.all ∙ reads in cc c) }

more_taken : (all : Option (Kind × ℕ)) (kind : Kind) → 0 < (more_of all kind).1
more_taken None kind = omega arith
more_taken (Some a) kind = omega arith

more_apart : (all : Option (Kind × ℕ)) (chains : Bool) → (reads_records all ≡ true → chains ≡ false) → is_none all && chains ≡ false → chains ≡ false ⊎ (reads_records (Some (more_of all Read)) ≡ false)
more_apart None chains apart alone = inl alone
more_apart (Some (Read, n)) chains apart alone = inl (apart refl)
more_apart (Some (Write, n)) chains apart alone = inr refl

and_first : (a b c : Bool) → a && (b || c) ≡ false → a && b ≡ false
and_first true true c e = e
and_first true false c e = refl
and_first false b c e = refl

pub holds_all_read : {A : Type 0} (old new : HeldLocks) (walks : Bool) (r : Result A LockRefusal) → IsWellHeld old → total_of new < 2 ^ 64 - 1 → is_none old.all && (holds_chains old || walks) ≡ false → OnOk r (SetsAll old new (Some (more_of old.all Read))) → OnErr r (new ≡ old) → IsWellHeld new
holds_all_read old new walks (Ok u) W few alone S E = record {
  counts = subst AreCounts (sym S.chains) W.counts;
  few = few;
  taken = subst (λ o. IfSome o (λ a. 0 < a.1)) (sym S.now) (more_taken old.all Read);
  apart = λ e. elim (more_apart old.all (holds_chains old) W.apart (and_first (is_none old.all) (holds_chains old) walks alone)) [
    | inl none ↦ ap (λ es. nat_lt 0 (sum (values_of es))) S.chains ∙ none
    | inr writes ↦ absurd (let c : ◌≡◌ {A = Bool} true false = sym e ∙ ap reads_records S.now ∙ writes in cc c)
  ];
}
holds_all_read old new walks (Err e) W few alone S E = subst IsWellHeld (sym E) W
