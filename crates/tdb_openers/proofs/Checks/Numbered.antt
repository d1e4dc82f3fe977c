-- The turn that asks for the sequence number, in the words of the law.
use Rattle.std.proofs.Common.{◌≡◌, ◌≢◌, ℕ, ◌+◌, ◌-◌, ◌<◌, ◌≤◌, ◌⊎◌, max, List, Bool, true, false, Option, None, Some, refl, sym, ◌∙◌, ap, inl, inr, arith}
use Rattle.std.specs.Prelude.{if◌then◌else◌}
use Rattle.std.proofs.lemmas.Bool.{cases_eq, cases_lt, false_from_ne_true}
use Rattle.tdb_words.specs.Word.{word}
use Rattle.tdb_space.specs.Form.{Form}
use Rattle.tdb_locks.specs.HeldLocks.{HeldLocks}
use Rattle.tdb_locks.specs.LockTable as Table
use Rattle.tdb_locks.specs.declared.kind.Kind.{Kind}
use Rattle.tdb_locks.specs.declared.kind.Kind.TheVariants.{Read, Write}
use Rattle.tdb_locks.specs.declared.piece.Piece.{Piece}
use Rattle.tdb_locks.proofs.Strengths as Kinds
use Rattle.tdb_law.specs.Commands.{Reply}
use Rattle.tdb_law.specs.Commands.Command.{Seqnum}
use Rattle.tdb_law.specs.Commands.Reply.{Memory, Number}
use Rattle.tdb_law.specs.Commands.Turn.{Blocked, Ends}
use Rattle.tdb_law.specs.Openers.{Own, View}
use Rattle.tdb_law.specs.Refusals.{refusal}
use Rattle.tdb_law.specs.Rows.{lock, is_changed, changed_by, locks_by}
use Rattle.tdb_law.specs.Outcomes.{counts_by}
use Rattle.tdb_law.specs.Ends.{ends_by, starves_by}
use Rattle.tdb_law.specs.Held.{covers, wanted, decided, locked_next, kept}
use Rattle.tdb_law.specs.Effects.{IsFree, IsFirstConflict}
use Rattle.tdb_law.specs.Effects.Effect.{effect_waits, effect_starves, effect_numbers}
use Rattle.tdb_law.proofs.Covered.{none_held}
use Rattle.tdb_law.proofs.Locks.{covers_within, within_covers}
use Rattle.tdb_steps.specs.Holdings.{strength, table_of}
use Rattle.tdb_commands.specs.declared.options.Options.{Options}
use Rattle.tdb_openers.specs.Openers.{AtRest, own_with}
use Rattle.tdb_openers.specs.Turning.{law_table, wants, resting, TurnsLocks, TurnsFile}
use Rattle.tdb_openers.specs.Ended.{MayCount}
use Rattle.tdb_openers.proofs.ExplicitLocks.Beside.{below_bare}
use Rattle.tdb_openers.proofs.ExplicitLocks.Shifted.{apart_less, turned_locks, at_most_two, free_law, first_law}

granted : (f : Form) (options : Options) (live : Bool) (old : HeldLocks) (rest : AtRest) → refusal f Seqnum (own_with options live old rest) ≡ None
unfolding refusal
granted f options live old rest = refl

unchanged : (f : Form) (options : Options) (live : Bool) (old : HeldLocks) (rest : AtRest) → is_changed f Seqnum (own_with options live old rest) 0 ≡ false
unfolding is_changed
unchanged f options live old rest = ap (λ q. changed_by q Seqnum (own_with options live old rest) 0) (granted f options live old rest)

-- it wants to read the lock byte of the number
want_number : ℕ → ℕ
want_number b = if covers (lock 0 48 49 1) b then 1 else 0

number_wants : (f : Form) (options : Options) (live : Bool) (old : HeldLocks) (rest : AtRest) (v : View) (b : ℕ) → wants f Seqnum (own_with options live old rest) (resting rest) v 0 b ≡ want_number b
unfolding wanted want_number
number_wants f options live old rest v b = ap (λ q. max (locked_next (locks_by f q Seqnum (own_with options live old rest) (decided (resting rest) v 0).purging) 0 b) 0) (granted f options live old rest) ∙ omega arith

here : (b : ℕ) → b ≡ 48 → want_number b ≡ 1
unfolding want_number
here b e = let over : covers (lock 0 48 49 1) b ≡ true = covers_within (lock 0 48 49 1) b (omega (arith, e)) (omega (arith, e)) in rw over refl

elsewhere : (b : ℕ) → b ≢ 48 → want_number b ≡ 0
unfolding want_number
elsewhere b differs = let bare : covers (lock 0 48 49 1) b ≡ false = false_from_ne_true (covers (lock 0 48 49 1) b) (λ e. let parts = within_covers (lock 0 48 49 1) b e in differs (omega (arith, parts.0, parts.1))) in rw bare refl

same_strength : (o : Option Kind) → strength o ≡ Kinds.strength o
same_strength None = refl
same_strength (Some Read) = refl
same_strength (Some Write) = refl

written : (o : Option Kind) → 2 ≤ strength o → o ≡ Some Write
written None h = absurd (omega (arith, h))
written (Some Read) h = absurd (omega (arith, h))
written (Some Write) h = refl

writes : (k : Kind) → Table.kinds_conflict k Read ≡ true → k ≡ Write
writes Read e = absurd (cc e)
writes Write e = refl

free_number : (ps : List Piece) (owner : ℕ) → Table.IsFree ps owner 48 49 Read → IsFree (table_of ps) owner want_number
free_number ps owner F = record { free = at }
  where
    at : (p b : ℕ) → p ≢ owner → want_number b + table_of ps p b ≤ 2
    at p b differs = elim (cases_eq b 48) [
      | inl e ↦ let w = here b e in let room = Kinds.strength-free ps owner 48 49 Read F p b differs (omega (arith, e)) (omega (arith, e)) in let s = same_strength (Table.held ps p b) in omega (arith, w, room, s)
      | inr n ↦ let w = elsewhere b n in let most = at_most_two (Table.held ps p b) in omega (arith, w, most)
    ]

first_number : (ps : List Piece) (owner o byte : ℕ) (kind : Kind) → Table.IsFirstConflict ps owner 48 49 Read o byte kind → IsFirstConflict (table_of ps) owner want_number o byte
first_number ps owner o byte kind F = record { other = F.conflict.other_owner; conflict = strong; least = least }
  where
    is : byte ≡ 48
    is = let low = F.conflict.from_start in let high = F.conflict.before_end in omega (arith, low, high)

    strong : 2 < want_number byte + table_of ps o byte
    strong = let w = here byte is in let holds = ap strength (F.conflict.holds ∙ ap Some (writes kind F.conflict.writes)) in omega (arith, w, holds)

    least : (p b : ℕ) → p ≢ owner → 2 < want_number b + table_of ps p b → (byte < b) ⊎ ((byte ≡ b) × (o ≤ p))
    least p b differs more = elim (cases_eq b 48) [
      | inl e ↦ (let w = here b e in
          F.least p b Write (record { other_owner = differs; from_start = omega (arith, e); before_end = omega (arith, e); holds = written (Table.held ps p b) (omega (arith, w, more)); writes = refl }))
      | inr n ↦ absurd (let w = elsewhere b n in let most = at_most_two (Table.held ps p b) in omega (arith, w, most, more))
    ]

module _ (f : Form) (options : Options) (live : Bool) (old : HeldLocks) (rest : AtRest) (who : ℕ) (ps : List Piece) (M : MayCount f options live old rest who ps) where
  abbrev x : Own
  x = own_with options live old rest

  holds_kept : (b : ℕ) → law_table ps who b ≡ kept f x (resting rest) b
  holds_kept b = let whole = M.holds.holds b in let none = none_held f Seqnum x (resting rest) b in omega (arith, whole, none)

  free_wants : (v : View) → IsFree (law_table ps) who want_number → IsFree (law_table ps) who (wants f Seqnum x (resting rest) v 0)
  free_wants v F = record { free = λ o b differs. let room = F.free o b differs in let w = number_wants f options live old rest v b in omega (arith, room, w) }

  conflict_wants : (v : View) (o byte : ℕ) → IsFirstConflict (law_table ps) who want_number o byte → IsFirstConflict (law_table ps) who (wants f Seqnum x (resting rest) v 0) o byte
  conflict_wants v o byte C = record {
    other = C.other;
    conflict = let strong = C.conflict in let w = number_wants f options live old rest v byte in omega (arith, strong, w);
    least = λ p b differs more. C.least p b differs (let w = number_wants f options live old rest v b in omega (arith, more, w));
  }

  most : (b : ℕ) → want_number b ≤ 2
  most b = elim (cases_eq b 48) [ inl e ↦ (let w = here b e in omega (arith, w)) | inr n ↦ (let w = elsewhere b n in omega (arith, w)) ]

  module _ (qs : List Piece) (same : (b : ℕ) → law_table qs who b ≡ law_table ps who b) (others : (o b : ℕ) → o ≢ who + 1 → table_of qs o b ≡ table_of ps o b) where
    apart : (o b : ℕ) → o ≢ who → law_table qs who b + law_table ps o b ≤ 2
    apart = apart_less f x x (resting rest) (resting rest) Seqnum 0 who ps qs M.holds (λ b. let e = same b in omega (arith, e))

    pub ends_locks : (r : Reply) → TurnsLocks f x x (resting rest) Seqnum 0 None who ps qs (Ends r)
    ends_locks r = turned_locks f x x (resting rest) (resting rest) Seqnum 0 who ps qs M.holds (Ends r) (inl (ap (λ q. ends_by q Seqnum x 0 r) (granted f options live old rest)))
        (λ b. let e = same b in let h = holds_kept b in omega (arith, e, h)) others apart

  -- after the number is read and let go all is held as before
  pub read_same : (mid qs : List Piece) → Table.ChangesRange ps mid (who + 1) 48 49 (Some Read) → Table.ChangesRange mid qs (who + 1) 48 49 None → (b : ℕ) → law_table qs who b ≡ law_table ps who b
  read_same mid qs A B b = elim (cases_lt b 48) [
    | inl low ↦ ap strength (B.below b low ∙ A.below b low)
    | inr from ↦ elim (cases_lt b 49) [
      | inl to ↦ ap strength (B.inside b from to) ∙ sym (holds_kept b ∙ below_bare f M.few options live old rest M.counts M.holds.rests b (omega (arith, to)))
      | inr past ↦ ap strength (B.above b past ∙ A.above b past)
    ]
  ]

  pub number_file : (v : View) (img : List ℕ) → Table.IsFree ps (who + 1) 48 49 Read → (q : ℕ) → q ≡ word f.order img 48 → TurnsFile f x x (resting rest) v Seqnum 0 who ps img img (Ends (Number q))
  number_file v img F q e = record {
    effect = effect_numbers q refl (free_wants v (free_law ps who want_number (free_number ps (who + 1) F))) (ap (λ p. counts_by p Seqnum) (granted f options live old rest)) e refl refl;
    number = refl;
  }

  pub waits_file : (v : View) (img : List ℕ) (o byte : ℕ) (kind : Kind) → Table.IsFirstConflict ps (who + 1) 48 49 Read o byte kind → TurnsFile f x x (resting rest) v Seqnum 0 who ps img img (Blocked (o - 1) byte)
  waits_file v img o byte kind F = record {
    effect = effect_waits (o - 1) byte refl (conflict_wants v (o - 1) byte (first_law ps who want_number o byte M.holds.numbered (most byte) (first_number ps (who + 1) o byte kind F))) (unchanged f options live old rest) refl refl;
    number = refl;
  }

  pub starves_file : (v : View) (img : List ℕ) → TurnsFile f x x (resting rest) v Seqnum 0 who ps img img (Ends Memory)
  starves_file v img = record { effect = effect_starves refl (ap (λ p. starves_by p Seqnum x) (granted f options live old rest)) (unchanged f options live old rest) refl refl; number = refl }
