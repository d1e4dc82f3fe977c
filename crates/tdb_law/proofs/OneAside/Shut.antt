-- What the locks of an opener aside leave to the others.
use Rattle.std.proofs.Common.{◌≡◌, ◌≢◌, ℕ, ◌+◌, ◌<◌, ◌≤◌, ◌^◌, List, [], ◌∷◌, Bool, true, false, Some, None, is_none, refl, sym, ◌∙◌, ap, subst, inl, inr, arith, le_refl}
use Rattle.std.specs.Prelude.{if◌then◌else◌, All}
use Rattle.std.proofs.lemmas.Bool.{cases_eq, cases_lt, eq-eqb}
use Rattle.std.proofs.lemmas.List.Elements.{All-nil, All-cons}
use Rattle.tdb_space.specs.Form.{Form}
use Rattle.tdb_law.specs.Commands.{MapCommand, Command}
use Rattle.tdb_law.specs.Commands.MapCommand.{Fetch, Has, Delete, Store, Insert, Modify, Append, Wipe, Check}
use Rattle.tdb_law.specs.Commands.GroupCommand.{Start}
use Rattle.tdb_law.specs.Commands.Command.{OnMap, OnGroup}
use Rattle.tdb_law.specs.Openers.{Own, Spot, Task, nowhere}
use Rattle.tdb_law.specs.Refusals.{refusal, chain_byte}
use Rattle.tdb_law.specs.Rows.{Lock, lock, lock_all, lock_free, lock_chain, start_locks, group_locks, map_locks, locks_by, locks}
use Rattle.tdb_law.specs.Held.{locked, txn_held, stand_held, decided, kept_by, kept, is_gone, held, task_held, holding}
use Rattle.tdb_law.specs.World.{State, IsSound, HasFewChains}
use Rattle.tdb_law.specs.Effects.{IsFirstConflict}
use Rattle.tdb_law.specs.Turned.{want}
use Rattle.tdb_law.proofs.Locks.{first_locked, rest_locked, covers_within, chain_place, chain_covered}
use Rattle.tdb_law.proofs.Walking.{put_here, put_else}
use Rattle.tdb_law.specs.OneAside.Sides.{Past, Side, beside, StandsAside}
use Rattle.tdb_law.specs.OneAside.Shutting.{HasRecords, IsToCome, IsShutOut}
use Rattle.tdb_law.specs.OneAside.Shutting.HasRecords.{by_transaction, by_start}
use Rattle.tdb_law.specs.OneAside.Turns.{IsUngrouped}
use Rattle.tdb_law.specs.OneAside.Laws.{RecordsAreHeld, OthersOnlyRead, OthersAreShutOut, ShutOutMeets}
use Rattle.tdb_law.proofs.OneAside.Ungrouped.{ungrouped_apart}
use Rattle.tdb_law.proofs.OneAside.Wants.{wants_most}

-- two steps of a Start take all records
start_held : (n b : ℕ) → 2 ≤ n → 168 ≤ b → b < 2 ^ 63 → 1 ≤ locked start_locks n b
start_held n b late from below =
    let all = first_locked (lock_all 1 1) [] n b late (covers_within (lock_all 1 1) b from below) in
    let more = rest_locked (lock 0 8 9 2) (lock_all 1 1 ∷ []) n b in
    omega (arith, all, more)

-- and the command holds them, where it isn't refused
start_command : (f : Form) (x : Own) (a : Spot) (n b : ℕ) → refusal f (OnGroup Start) x ≡ None → x.txn ≡ None → held f (OnGroup Start) x a n b ≡ locked start_locks n b
unfolding held
start_command f x a n b granted out = ap (λ q. locked (locks_by f q (OnGroup Start) x a.purging) n b) granted ∙ ap (λ o. locked (group_locks Start o) n b) out

held_near : (f : Form) (c : Command) (x : Own) (a : Spot) (n b : ℕ) → is_gone c a ≡ false → held f c x a n b ≡ locked (locks f c x a.purging) n b
unfolding held
held_near f c x a n b near = ap (λ z. if z then 0 else locked (locks f c x a.purging) n b) near

-- of a row that has locked no record each lock of records is to come
to_come : (n : ℕ) (ls : List Lock) → ((b : ℕ) → 168 ≤ b → b < 2 ^ 63 → locked ls n b ≡ 0) → All (IsToCome n) ls
to_come n [] none = All-nil (IsToCome n)
to_come n (l ∷ ls) none = All-cons (IsToCome n) l ls first (to_come n ls (λ b from below. omega (arith, rest_locked l ls n b, none b from below)))
  where
    first : IsToCome n l
    first b from below over strong = elim (cases_lt l.turn n) [
      | inl taken ↦ absurd (omega (arith, first_locked l ls n b taken over, none b from below, strong))
      | inr later ↦ later
    ]

-- the row of a command on the map begins with one of a chain, or of all records
map_row : (f : Form) (c : MapCommand) (x : Own) (purging : Bool) → x.txn ≡ None → refusal f (OnMap c) x ≡ None → locks f (OnMap c) x purging ≡ map_locks f c
map_row f c x purging out granted = ap (λ q. locks_by f q (OnMap c) x purging) granted ∙ ap (λ o. if is_none o then map_locks f c else []) out

module _ (f : Form) (chains : HasFewChains f) (n : ℕ) where
  chain_new : (k : List ℕ) (strength : ℕ) → 1 ≤ strength → IsToCome n (lock_chain f 0 k strength) → n ≡ 0
  chain_new k strength strong to =
      let place = chain_place f chains k in
      let none : n ≤ 0 = to (chain_byte f k) place.above (omega (arith, place.below, place.far)) (chain_covered f 0 k strength) strong in
      omega arith

  all_new : (strength : ℕ) → 1 ≤ strength → IsToCome n (lock_all 0 strength) → n ≡ 0
  all_new strength strong to =
      let none : n ≤ 0 = to 168 (le_refl 168) (omega arith) (covers_within (lock_all 0 strength) 168 (le_refl 168) (omega arith)) strong in
      omega arith

  pub map_new : (c : MapCommand) → All (IsToCome n) (map_locks f c) → n ≡ 0
  map_new (Fetch k) T = chain_new k 1 (omega arith) (T 0 (lock_free 0 0) (omega arith))
  map_new (Has k) T = chain_new k 1 (omega arith) (T 0 (lock_free 0 0) (omega arith))
  map_new (Delete k) T = chain_new k 2 (omega arith) (T 0 (lock_free 0 0) (omega arith))
  map_new (Store k v) T = chain_new k 2 (omega arith) (T 0 (lock_free 0 0) (omega arith))
  map_new (Insert k v) T = chain_new k 2 (omega arith) (T 0 (lock_free 0 0) (omega arith))
  map_new (Modify k v) T = chain_new k 2 (omega arith) (T 0 (lock_free 0 0) (omega arith))
  map_new (Append k v) T = chain_new k 2 (omega arith) (T 0 (lock_free 0 0) (omega arith))
  map_new Wipe T = all_new 2 (omega arith) (T 0 (lock_free 0 0) (omega arith))
  map_new Check T = all_new 1 (omega arith) (T 0 (lock_free 0 0) (omega arith))

module _ (f : Form) (p : State) (past : Past) (s : Side) (S : IsSound f (beside p past s)) where
  abbrev q : State
  q = beside p past s

  -- what the opener aside holds, and another one
  table_here : (b : ℕ) → q.table s.here b ≡ s.table b
  table_here b = ap (λ g. g b) (put_here p.table s.here s.table s.here refl)

  table_else : (who b : ℕ) → who ≢ s.here → q.table who b ≡ p.table who b
  table_else who b ne = ap (λ g. g b) (put_else p.table s.here s.table who ne)

  held_here : (b : ℕ) → s.table b ≡ holding f s.own nowhere s.task b
  held_here b = sym (table_here b) ∙ S.agrees s.here b ∙ (λ i. holding f (put_here p.own s.here s.own s.here refl i) (put_here p.spot s.here nowhere s.here refl i) (put_here p.task s.here s.task s.here refl i) b)

  held_else : (who b : ℕ) → who ≢ s.here → p.table who b ≡ holding f (p.own who) (p.spot who) (p.task who) b
  held_else who b ne = sym (table_else who b ne) ∙ S.agrees who b ∙ (λ i. holding f (put_else p.own s.here s.own who ne i) (put_else p.spot s.here nowhere who ne i) (put_else p.task s.here s.task who ne i) b)

  both : (who b : ℕ) → who ≢ s.here → p.table who b + s.table b ≤ 2
  both who b ne = omega (arith, table_here b, table_else who b ne, S.apart who s.here b ne)

  records_by : (b : ℕ) → HasRecords f s → 168 ≤ b → b < 2 ^ 63 → 1 ≤ s.table b
  records_by b (by_transaction txn is) from below =
      let keeps : kept f s.own nowhere b ≡ txn_held txn b = ap (λ o. kept_by f o s.own nowhere b) is in
      omega (arith, held_here b, keeps, start_held 2 b (le_refl 2) from below)
  records_by b (by_start n is late granted out) from below =
      let has : task_held f s.own nowhere s.task b ≡ locked start_locks n b = ap (λ t. task_held f s.own nowhere t b) is ∙ start_command f s.own nowhere n b granted out in
      omega (arith, held_here b, has, start_held n b late from below)

  module _ (A : StandsAside p s) (shut : s.shuts ≡ true) (who : ℕ) (ne : who ≢ s.here) where
    holds_none : (b : ℕ) → 168 ≤ b → b < 2 ^ 63 → p.table who b ≡ 0
    holds_none b from below = omega (arith, both who b ne, A.shuts shut b from below)

    bare : (b : ℕ) → 168 ≤ b → b < 2 ^ 63 → holding f (p.own who) (p.spot who) (p.task who) b ≡ 0
    bare b from below = sym (held_else who b ne) ∙ holds_none b from below

    -- a cursor that stands on a record reads it
    stands_read : (place : ℕ) → (p.own who).txn ≡ None → (p.spot who).stands ≡ Some place → 1 ≤ holding f (p.own who) (p.spot who) (p.task who) place
    stands_read place out on =
        let reads : stand_held (p.spot who).stands place ≡ 1 = ap (λ o. stand_held o place) on ∙ rw (eq-eqb place place refl) refl in
        let keeps : kept f (p.own who) (p.spot who) place ≡ kept_by f None (p.own who) (p.spot who) place = ap (λ o. kept_by f o (p.own who) (p.spot who) place) out in
        omega (arith, reads, keeps)

    stands_far : (place : ℕ) → (p.spot who).stands ≡ Some place → 2 ^ 63 ≤ place
    stands_far place on =
        let is = S.stands who place (ap (λ z. z.stands) (put_else p.spot s.here nowhere who ne) ∙ on) in
        elim (cases_lt place (2 ^ 63)) [
          | inl below ↦ absurd (omega (arith, stands_read place (ap (λ x. x.txn) (sym (put_else p.own s.here s.own who ne)) ∙ is.0) on, bare place (omega (arith, is.1)) below))
          | inr far ↦ far
        ]

    -- its command has locked none
    row_bare : (t : Task) → p.task who ≡ Some t → is_gone t.command (p.spot who) ≡ false → (b : ℕ) → 168 ≤ b → b < 2 ^ 63 → locked (locks f t.command (p.own who) (p.spot who).purging) t.steps b ≡ 0
    row_bare t has near b from below =
        let none : task_held f (p.own who) (p.spot who) (p.task who) b ≡ 0 = omega (arith, bare b from below) in
        sym (held_near f t.command (p.own who) (p.spot who) t.steps b near) ∙ ap (λ u. task_held f (p.own who) (p.spot who) u b) (sym has) ∙ none

    row : (t : Task) → p.task who ≡ Some t → is_gone t.command (p.spot who) ≡ false → All (IsToCome t.steps) (locks f t.command (p.own who) (p.spot who).purging)
    row t has near = to_come t.steps (locks f t.command (p.own who) (p.spot who).purging) (row_bare t has near)

    shut_out : IsShutOut f p who
    shut_out = record {
      holds = holds_none;
      stands = stands_far;
      row = row;
      new = λ c n has out granted. map_new f S.chains n c (subst (All (IsToCome n)) (map_row f c (p.own who) (p.spot who).purging out granted) (row (record { command = OnMap c; steps = n }) has refl));
    }

    -- the first record that its command wants
    module _ (t : Task) (byte : ℕ) (apart : IsUngrouped t.command) (from : 168 ≤ byte) (below : byte < 2 ^ 63) (wants : 1 ≤ want f q who t byte) (first : (b : ℕ) → b < byte → want f q who t b ≡ 0) where
      -- another opener's locks alone never conflict
      table_most : (o b : ℕ) → o ≢ who → q.table o b ≤ 2
      table_most o b other = omega (arith, S.apart o who b other)

      -- at its byte no third opener holds anything
      meets_here : (o : ℕ) → o ≢ who → 2 < want f q who t byte + q.table o byte → s.here ≤ o
      meets_here o other over = elim (cases_eq o s.here) [
        | inl is ↦ omega (arith, is)
        | inr third ↦ absurd (omega (arith, over, wants_most f t.command (q.own who) (decided (q.spot who) (q.view who) t.steps) (q.view who) t.steps byte (ungrouped_apart (refusal f t.command (q.own who)) t.command apart), table_else o byte third, both o byte third, A.shuts shut byte from below))
      ]

      meets : IsFirstConflict q.table who (want f q who t) s.here byte
      meets = record {
        other = λ e. ne (sym e);
        conflict = omega (arith, wants, table_here byte, A.shuts shut byte from below);
        least = λ o b other over.
            (elim (cases_lt b byte) [
              | inl lower ↦ absurd (omega (arith, over, first b lower, table_most o b other))
              | inr up ↦ elim (cases_eq byte b) [
                | inl is ↦ inr (is, meets_here o other (subst (λ z. 2 < want f q who t z + q.table o z) (sym is) over))
                | inr apart_of ↦ inl (omega (arith, up, apart_of))
              ]
            ]);
      }

pub records_held : RecordsAreHeld
records_held f p past s b S R from below = records_by f p past s S b R from below

pub others_only_read : OthersOnlyRead
others_only_read f p past s who b S ne held = omega (arith, both f p past s S who b ne, held)

pub others_shut_out : OthersAreShutOut
others_shut_out f p past s who S A shut ne = shut_out f p past s S A shut who ne

pub shut_out_meets : ShutOutMeets
shut_out_meets f p past s who t byte S A shut ne apart from below wants first = meets f p past s S A shut who ne t byte apart from below wants first
