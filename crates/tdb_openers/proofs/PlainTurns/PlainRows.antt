-- The locks of a plain command: they are those of the law's row, nothing is held before them, and what the opener keeps
-- beside them.
use Rattle.std.proofs.Common.{◌≡◌, ℕ, ◌+◌, ◌*◌, ◌<◌, ◌≤◌, ◌⊎◌, max, List, [], ◌∷◌, Bool, true, false, Option, None, Some, is_some, refl, sym, ◌∙◌, ap, inl, inr, arith, nat_lt}
use Rattle.std.specs.Prelude.{◌&&◌, ◌||◌, IfSome, if◌then◌else◌}
use Rattle.std.proofs.lemmas.Bool.{false_from_ne_true}
use Rattle.tdb_space.specs.Form.{Form}
use Rattle.tdb_space.specs.Pairs.{home}
use Rattle.tdb_space.proofs.Pairs.Maps.{home_below}
use Rattle.tdb_locks.specs.HeldLocks.{HeldLocks, AreCounts, count_of}
use Rattle.tdb_locks.specs.LockTable as Table
use Rattle.tdb_locks.specs.declared.kind.Kind.{Kind}
use Rattle.tdb_locks.specs.declared.kind.Kind.TheVariants.{Read, Write}
use Rattle.tdb_locks.specs.declared.piece.Piece.{Piece}
use Rattle.tdb_locks.specs.declared.turn.Reply.{Reply}
use Rattle.tdb_law.specs.Commands.Command.{OnMap}
use Rattle.tdb_law.specs.Refusals.{refusal}
use Rattle.tdb_law.specs.Rows.{Lock, map_locks}
use Rattle.tdb_law.specs.Held.{covers, locked, kept}
use Rattle.tdb_law.specs.World.{HasFewChains}
use Rattle.tdb_law.proofs.Locks.{within_covers}
use Rattle.tdb_commands.specs.declared.command.Command.TheVariants as Given
use Rattle.tdb_steps.specs.Holdings.{table_of, KeptBeside, HoldsBefore}
use Rattle.tdb_steps.specs.LockRows.{locks_in, rows_of, covers_all, StandsAlone, AllStandAlone}
use Rattle.tdb_steps.specs.PlainCommands.{key_of, command_of}
use Rattle.tdb_steps.specs.declared.flag.Flag.TheVariants as Flags
use Rattle.tdb_steps.specs.declared.plain.Plain.{Plain}
use Rattle.tdb_steps.specs.declared.plain.Plain.TheVariants.{Fetch, Has, Store, Append, Delete, Wipe}
use Rattle.tdb_steps.specs.declared.rows.Region.TheVariants.{Chain, FreeList, AllRecords}
use Rattle.tdb_steps.specs.declared.rows.Rows.{Rows}
use Rattle.tdb_commands.specs.declared.options.Options.{Options}
use Rattle.tdb_openers.specs.Openers.{AtRest, own_with}
use Rattle.tdb_openers.specs.Given.{holds_chains, reads_records}
use Rattle.tdb_openers.specs.Turning.{OpenerHolds, StandsWell, resting}
use Rattle.tdb_openers.proofs.ExplicitLocks.Beside.{all_bare, not_first, not_second, below_bare, beside_chain, beside_free, beside_all}
use Rattle.tdb_openers.proofs.PlainTurns.Busy.{held_is}
use Rattle.tdb_openers.proofs.ExplicitLocks.Granted.{not_told, none_held_there, untold_of, between_bare}
use Rattle.tdb_openers.proofs.ExplicitLocks.Shifted.{apart_table}

-- the rows are the law's
pub rows_are : (f : Form) (command : Plain) → locks_in (rows_of command (home f (key_of command))) ≡ map_locks f (command_of command)
rows_are f (Fetch key) = refl
rows_are f (Has key) = refl
rows_are f (Store key value Flags.Replace) = refl
rows_are f (Store key value Flags.Insert) = refl
rows_are f (Store key value Flags.Modify) = refl
rows_are f (Append key value) = refl
rows_are f (Delete key) = refl
rows_are f Wipe = refl

-- no lock of a list covers a byte
abbrev pub Misses : ℕ → List Lock → Type 0
Misses b [] = Unit {0}
Misses b (l ∷ ls) = ((b < l.start) ⊎ (l.end ≤ b)) × Misses b ls

not_covered : (l : Lock) (b : ℕ) → (b < l.start) ⊎ (l.end ≤ b) → covers l b ≡ false
not_covered l b out = false_from_ne_true (covers l b) (λ e. let parts = within_covers l b e in elim out [ inl before ↦ omega (arith, before, parts.0) | inr past ↦ omega (arith, past, parts.1) ])

bare_lock : (p v : Bool) (s : ℕ) → v ≡ false → (if p && v then s else 0) ≡ 0
bare_lock true v s e = rw e refl
bare_lock false v s e = refl

pub missed : (ls : List Lock) (n b : ℕ) → Misses b ls → locked ls n b ≡ 0
missed [] n b out = refl
missed (l ∷ ls) n b out = omega (arith, bare_lock (nat_lt l.turn n) (covers l b) l.strength (not_covered l b out.0), missed ls n b out.1)

-- what a command that isn't refused tells of the explicit locks and of the cursor
abbrev pub Allows : HeldLocks → Bool → Plain → Type 0
Allows held walks (Fetch key) = Unit {0}
Allows held walks (Has key) = Unit {0}
Allows held walks Wipe = (walks ≡ false) × (holds_chains held ≡ false) × (reads_records held.all ≡ false)
Allows held walks command = reads_records held.all ≡ false

not_changed : (read_only stands : Bool) (r : Reply) → ◌≡◌ {A = Option Reply} (if read_only then Some Reply.ReadOnly else (if stands then Some r else None)) None → stands ≡ false
not_changed true stands r e = absurd (cc e)
not_changed false stands r e = not_told stands r e

module _ (f : Form) (few : HasFewChains f) (options : Options) (live : Bool) (held : HeldLocks) (rest : AtRest) (counts : AreCounts held.chains) (K : StandsWell f rest.shown rest.stands) where
  pub allowed : (command : Plain) → refusal f (OnMap (command_of command)) (own_with options live held rest) ≡ None → Allows held (is_some rest.shown) command
  allowed (Fetch key) R = tt
  allowed (Has key) R = tt
  allowed (Store key value Flags.Replace) R = not_changed options.read_only _ _ (untold_of f options live held rest counts (Given.Store key value Flags.Replace) R)
  allowed (Store key value Flags.Insert) R = not_changed options.read_only _ _ (untold_of f options live held rest counts (Given.Store key value Flags.Insert) R)
  allowed (Store key value Flags.Modify) R = not_changed options.read_only _ _ (untold_of f options live held rest counts (Given.Store key value Flags.Modify) R)
  allowed (Append key value) R = not_changed options.read_only _ _ (untold_of f options live held rest counts (Given.Append key value) R)
  allowed (Delete key) R = not_changed options.read_only _ _ (untold_of f options live held rest counts (Given.Delete key) R)
  allowed Wipe R =
      let none = not_changed options.read_only (is_some rest.shown || holds_chains held || reads_records held.all) _ (untold_of f options live held rest counts Given.Wipe R) in
      let less = not_first (is_some rest.shown || holds_chains held) (reads_records held.all) none in
      (not_first (is_some rest.shown) (holds_chains held) less, not_second (is_some rest.shown) (holds_chains held) less, not_second (is_some rest.shown || holds_chains held) (reads_records held.all) none)

  -- what the opener keeps beside the rows
  abbrev pub own_kept : ℕ → ℕ
  own_kept b = kept f (own_with options live held rest) (resting rest) b

  abbrev BothBeside : Rows → Type 0
  BothBeside rows = KeptBeside held own_kept rows.first × IfSome rows.second (KeptBeside held own_kept)

  reader_beside : (key : List ℕ) → BothBeside (rows_of (Fetch key) (home f key))
  reader_beside key = (beside_chain f few options live held rest counts K 0 (home f key) Read (home_below f key few.some) (λ e. absurd (cc e)), tt)

  writer_beside : (key : List ℕ) → reads_records held.all ≡ false → BothBeside (rows_of (Delete key) (home f key))
  writer_beside key none = (beside_chain f few options live held rest counts K 0 (home f key) Write (home_below f key few.some) (λ e. none), beside_free f few options live held rest counts K 2 Write)

  beside : (command : Plain) → Allows held (is_some rest.shown) command → BothBeside (rows_of command (home f (key_of command)))
  beside (Fetch key) may = reader_beside key
  beside (Has key) may = reader_beside key
  beside (Store key value flag) may = writer_beside key may
  beside (Append key value) may = writer_beside key may
  beside (Delete key) may = writer_beside key may
  beside Wipe may = (beside_all f few options live held rest counts K 0 Write (λ e. may.2) (λ e. (may.1, may.0)), beside_free f few options live held rest counts K 1 Write)

  -- nothing is held at the byte before a lock that isn't covered
  module _ (who : ℕ) (ps : List Piece) (ls : List Lock) (n : ℕ) (whole : (b : ℕ) → table_of ps (who + 1) b ≡ max (locked ls n b) (own_kept b)) where
    nothing_there : (b : ℕ) → Misses b ls → own_kept b ≡ 0 → Table.held ps (who + 1) b ≡ None
    nothing_there b out bare = none_held_there (Table.held ps (who + 1) b) (omega (arith, whole b, missed ls n b out, bare))

    alone_chain : (turn chain : ℕ) (kind : Kind) → (kind ≡ Write → reads_records held.all ≡ false) → ((b : ℕ) → b + 1 ≡ 168 + 4 * chain → Misses b ls) → StandsAlone held (who + 1) ps (record { turn = turn; region = Chain chain; kind = kind })
    alone_chain turn chain kind apart out bare b next =
        nothing_there b (out b next) (between_bare f options live held rest counts K chain b next (all_bare held.all kind (not_second (nat_lt 0 (count_of held chain)) (covers_all held.all kind) bare) apart))

    alone_free : (turn : ℕ) (kind : Kind) → ((b : ℕ) → b + 1 ≡ 164 → Misses b ls) → StandsAlone held (who + 1) ps (record { turn = turn; region = FreeList; kind = kind })
    alone_free turn kind out bare b next = nothing_there b (out b next) (below_bare f few options live held rest counts K b (omega (arith, next)))

    alone_all : (turn : ℕ) (kind : Kind) → ((b : ℕ) → b + 1 ≡ 168 → Misses b ls) → StandsAlone held (who + 1) ps (record { turn = turn; region = AllRecords; kind = kind })
    alone_all turn kind out bare b next = nothing_there b (out b next) (below_bare f few options live held rest counts K b (omega (arith, next)))

  module _ (who : ℕ) (ps : List Piece) (n : ℕ) where
    abbrev IsWhole : Rows → Type 0
    IsWhole rows = (b : ℕ) → table_of ps (who + 1) b ≡ max (locked (locks_in rows) n b) (own_kept b)

    reader_alone : (key : List ℕ) → IsWhole (rows_of (Fetch key) (home f key)) → AllStandAlone held (who + 1) ps (rows_of (Fetch key) (home f key))
    reader_alone key whole = record {
      first = alone_chain who ps (locks_in (rows_of (Fetch key) (home f key))) n whole 0 (home f key) Read (λ e. absurd (cc e)) (λ b next. (inl (omega (arith, next)), tt));
      second = tt;
    }

    writer_alone : (key : List ℕ) → reads_records held.all ≡ false → IsWhole (rows_of (Delete key) (home f key)) → AllStandAlone held (who + 1) ps (rows_of (Delete key) (home f key))
    writer_alone key none whole = record {
      first = alone_chain who ps (locks_in (rows_of (Delete key) (home f key))) n whole 0 (home f key) Write (λ e. none) (λ b next. (inl (omega (arith, next)), (inr (omega (arith, next)), tt)));
      second = alone_free who ps (locks_in (rows_of (Delete key) (home f key))) n whole 2 Write (λ b next. (inl (omega (arith, next)), (inl (omega (arith, next)), tt)));
    }

    alone : (command : Plain) → Allows held (is_some rest.shown) command → IsWhole (rows_of command (home f (key_of command))) → AllStandAlone held (who + 1) ps (rows_of command (home f (key_of command)))
    alone (Fetch key) may whole = reader_alone key whole
    alone (Has key) may whole = reader_alone key whole
    alone (Store key value flag) may whole = writer_alone key may whole
    alone (Append key value) may whole = writer_alone key may whole
    alone (Delete key) may whole = writer_alone key may whole
    alone Wipe may whole = record {
      first = alone_all who ps (locks_in (rows_of Wipe 0)) n whole 0 Write (λ b next. (inl (omega (arith, next)), (inr (omega (arith, next)), tt)));
      second = alone_free who ps (locks_in (rows_of Wipe 0)) n whole 1 Write (λ b next. (inl (omega (arith, next)), (inl (omega (arith, next)), tt)));
    }

  -- before a turn of the command
  module _ (command : Plain) (n who : ℕ) (ps : List Piece) (R : refusal f (OnMap (command_of command)) (own_with options live held rest) ≡ None)
      (H : OpenerHolds f (own_with options live held rest) (resting rest) (OnMap (command_of command)) n who ps) where
    pub whole : (b : ℕ) → table_of ps (who + 1) b ≡ max (locked (map_locks f (command_of command)) n b) (own_kept b)
    whole b = H.holds b ∙ ap (λ q. max q (own_kept b)) (held_is f (command_of command) (own_with options live held rest) R refl (resting rest) n b)

    whole_rows : IsWhole who ps n (rows_of command (home f (key_of command)))
    whole_rows b = whole b ∙ ap (λ ls. max (locked ls n b) (own_kept b)) (sym (rows_are f command))

    pub rows_alone : AllStandAlone held (who + 1) ps (rows_of command (home f (key_of command)))
    rows_alone = alone who ps n command (allowed command R) whole_rows

    pub holds_before : HoldsBefore held own_kept (who + 1) n ps (rows_of command (home f (key_of command)))
    holds_before = let both = beside command (allowed command R) in record {
      holds = whole_rows;
      apart = λ o b differs. apart_table f (own_with options live held rest) (own_with options live held rest) (resting rest) (resting rest) (OnMap (command_of command)) n who ps ps H o b differs;
      first = both.0;
      second = both.1;
    }
