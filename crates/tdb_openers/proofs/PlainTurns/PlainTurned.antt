-- What a turn of a plain command does to the lock table and to the map, in the words of the law.
use Rattle.std.proofs.Common.{◌≡◌, ℕ, ◌+◌, ◌-◌, ◌<◌, ◌≤◌, max, List, [], ◌∷◌, Bool, true, false, ◌==◌, None, Some, refl, sym, ◌∙◌, ap, subst, inl, inr, arith, zero-le}
use Rattle.std.specs.Prelude.{◌&&◌, if◌then◌else◌}
use Rattle.tdb_words.specs.Word.{word}
use Rattle.tdb_space.specs.Form.{Form}
use Rattle.tdb_locks.specs.HeldLocks.{HeldLocks}
use Rattle.tdb_locks.specs.declared.piece.Piece.{Piece}
use Rattle.tdb_law.specs.Commands.{MapCommand, Reply, Turn, is_done}
use Rattle.tdb_law.specs.Commands.MapCommand.{Fetch, Has, Delete, Store, Insert, Modify, Append, Wipe, Check}
use Rattle.tdb_law.specs.Commands.Command.{OnMap}
use Rattle.tdb_law.specs.Commands.Reply.{Done, Memory, Full}
use Rattle.tdb_law.specs.Commands.Turn.{Step, Blocked, Ends}
use Rattle.tdb_law.specs.Openers.{Own, View, Map}
use Rattle.tdb_law.specs.Refusals.{refusal}
use Rattle.tdb_law.specs.Rows.{Lock, map_locks, locks_by, look, is_changed, changed_by, map_changed}
use Rattle.tdb_law.specs.MapCommands.{reply, after, map_changes as may_change}
use Rattle.tdb_law.specs.Outcomes.{moves_by, counts_by, told_by, told, map_by, map_after, own_by, own_after, fills_by}
use Rattle.tdb_law.specs.Ends.{last_by, ends_by, starves_by}
use Rattle.tdb_law.specs.Held.{covers, locked, locked_next, kept, wanted, decided, holding}
use Rattle.tdb_law.specs.Effects.{Effect, IsFree, IsFirstConflict, Finds, task_left}
use Rattle.tdb_law.specs.Effects.Effect.{effect_waits, effect_goes_on, effect_changes, effect_answers, effect_starves, effect_is_full, effect_finishes}
use Rattle.tdb_law.specs.Counting.{raised, number_by, brings_by}
use Rattle.tdb_law.specs.Turned.{number_next}
use Rattle.tdb_law.specs.Images.{image_map}
use Rattle.tdb_law.proofs.Maps.{maps_equal}
use Rattle.tdb_law.proofs.HandsOut.{image_answers}
use Rattle.tdb_steps.specs.Holdings.{table_of, LocksTurned, GoesRightly}
use Rattle.tdb_steps.specs.Machines.{MapRow, MapTurned, number_after}
use Rattle.tdb_steps.specs.Machines.MapTurned.{map_waits, map_goes_on, map_changes, map_answers, map_starves, map_is_full, map_finishes}
use Rattle.tdb_steps.specs.PlainCommands.{IsMapOf}
use Rattle.tdb_steps.proofs.Holdings.{next_turn}
use Rattle.tdb_commands.specs.declared.options.Options.{Options}
use Rattle.tdb_openers.specs.Openers.{AtRest, own_with}
use Rattle.tdb_openers.specs.Turning.{law_table, wants, resting, OpenerHolds, TurnsLocks}
use Rattle.tdb_openers.proofs.PlainTurns.Busy.{held_is, look_is}
use Rattle.tdb_openers.proofs.Joining.Recounted.{recounted, recounted_reply, told_same, same_ends, same_done}
use Rattle.tdb_openers.proofs.ExplicitLocks.Shifted.{free_law, first_law, apart_less, apart_free, turned_locks}

-- no command on the map wants a byte more strongly than for writing
one_most : (p v : Bool) (s : ℕ) → s ≤ 2 → (if p && v then s else 0) ≤ 2
one_most false v s most = zero-le
one_most true false s most = zero-le
one_most true true s most = most

abbrev AreWeak : List Lock → Type 0
AreWeak [] = Unit {0}
AreWeak (l ∷ ls) = (l.strength ≤ 2) × AreWeak ls

next_most : (ls : List Lock) (n b : ℕ) → AreWeak ls → locked_next ls n b ≤ 2
next_most [] n b weak = zero-le
next_most (l ∷ ls) n b weak = omega (arith, one_most (l.turn == n) (covers l b) l.strength weak.0, next_most ls n b weak.1)

map_weak : (f : Form) (c : MapCommand) → AreWeak (map_locks f c)
map_weak f (Fetch k) = (omega arith, tt)
map_weak f (Has k) = (omega arith, tt)
map_weak f (Delete k) = (omega arith, (omega arith, tt))
map_weak f (Store k v) = (omega arith, (omega arith, tt))
map_weak f (Insert k v) = (omega arith, (omega arith, tt))
map_weak f (Modify k v) = (omega arith, (omega arith, tt))
map_weak f (Append k v) = (omega arith, (omega arith, tt))
map_weak f Wipe = (omega arith, (omega arith, tt))
map_weak f Check = (omega arith, (omega arith, tt))

module _ (f : Form) (c : MapCommand) (options : Options) (live : Bool) (held : HeldLocks) (rest : AtRest) (n who : ℕ) (old : List Piece) (R : refusal f (OnMap c) (own_with options live held rest) ≡ None)
    (H : OpenerHolds f (own_with options live held rest) (resting rest) (OnMap c) n who old) where
  abbrev own : Own
  own = own_with options live held rest

  abbrev ls : List Lock
  ls = map_locks f c

  abbrev own_kept : ℕ → ℕ
  own_kept b = kept f own (resting rest) b

  holds_now : (m b : ℕ) → max (locked ls m b) (own_kept b) ≡ holding f own (resting rest) (Some (record { command = OnMap c; steps = m })) b
  holds_now m b = ap (λ q. max q (own_kept b)) (sym (held_is f c own R refl (resting rest) m b))

  whole : (b : ℕ) → law_table old who b ≡ max (locked ls n b) (own_kept b)
  whole b = H.holds b ∙ sym (holds_now n b)

  -- the lock table
  pub plain_locks : (new : List Piece) (turn : Turn) → LocksTurned ls own_kept (who + 1) n old new turn → MapRow c n turn → TurnsLocks f own own (resting rest) (OnMap c) n (task_left (OnMap c) n (recounted turn)) who old new (recounted turn)
  plain_locks new Step L row =
      turned_locks f own own (resting rest) (resting rest) (OnMap c) n who old new H Step (subst (λ m. n < m) (sym (ap (λ q. last_by q (OnMap c) own) R)) row) (λ b. L.holds b ∙ holds_now (n + 1) b) L.others
      (apart_free f own own (resting rest) (resting rest) (OnMap c) n who old new H (locked_next ls n) (free_law old who (locked_next ls n) L.rightly) (λ b. let now = L.holds b in let before = whole b in let more = next_turn ls n b in omega (arith, now, before, more)))
  plain_locks new (Blocked o byte) L row =
      turned_locks f own own (resting rest) (resting rest) (OnMap c) n who old new H (Blocked (o - 1) byte) refl (λ b. L.holds b ∙ holds_now n b) L.others
      (apart_less f own own (resting rest) (resting rest) (OnMap c) n who old new H (λ b. let now = L.holds b in let before = whole b in omega (arith, now, before)))
  plain_locks new (Ends r) L row =
      turned_locks f own own (resting rest) (resting rest) (OnMap c) n who old new H (Ends (recounted_reply r))
      (elim row [
        | inl e ↦ inl (ap (λ q. ends_by q (OnMap c) own n (recounted_reply r)) R ∙ (same_ends c n r ∙ e))
        | inr e ↦ inr (ap recounted_reply e.0, ap (λ q. starves_by q (OnMap c) own) R, subst (λ m. n ≤ m) (sym (ap (λ q. last_by q (OnMap c) own) R)) e.1)
      ]) L.holds L.others
      (apart_less f own own (resting rest) (resting rest) (OnMap c) n who old new H (λ b. let now = L.holds b in let before = whole b in omega (arith, now, before)))

  -- what the turn wants
  want_is : (v : View) (b : ℕ) → wants f (OnMap c) own (resting rest) v n b ≡ locked_next ls n b
  unfolding wanted
  want_is v b = ap (λ q. max (locked_next (locks_by f q (OnMap c) own (decided (resting rest) v n).purging) n b) 0) R ∙ omega arith

  free_want : (v : View) → IsFree (table_of old) (who + 1) (locked_next ls n) → IsFree (law_table old) who (wants f (OnMap c) own (resting rest) v n)
  free_want v F = record { free = λ p b differs. let room = (free_law old who (locked_next ls n) F).free p b differs in let same = want_is v b in omega (arith, room, same) }

  first_want : (v : View) (o byte : ℕ) → IsFirstConflict (table_of old) (who + 1) (locked_next ls n) o byte → IsFirstConflict (law_table old) who (wants f (OnMap c) own (resting rest) v n) (o - 1) byte
  first_want v o byte F =
      let G = first_law old who (locked_next ls n) o byte H.numbered (next_most ls n byte (map_weak f c)) F in
      record {
        other = G.other;
        conflict = (let strong = G.conflict in let same = want_is v byte in omega (arith, strong, same));
        least = λ p b differs more. G.least p b differs (let same = want_is v b in omega (arith, more, same));
      }

  changed_is : (m : ℕ) → is_changed f (OnMap c) own m ≡ map_changed c m
  unfolding is_changed
  changed_is m = ap (λ q. changed_by q (OnMap c) own m) R

  ready : 1 ≤ n → look f (OnMap c) own ≤ n
  ready late = let first = look_is f c own R refl in omega (arith, first, late)

  told_is : (m : Map) → told f (OnMap c) own m ≡ reply c m
  told_is m = ap (λ q. told_by q (OnMap c) own m) R

  after_is : (m : Map) → map_after f (OnMap c) own m ≡ after c m
  after_is m = ap (λ q. map_by q (OnMap c) own m) R

  stays : (r : Reply) (m : Map) → own ≡ own_after f (OnMap c) own n r m
  stays r m = sym (ap (λ q. own_by f q (OnMap c) own n r m) R)

  -- the map
  module _ (v : View) (a b : List ℕ) where
    abbrev pub Effected : Turn → Type 0
    Effected turn = Effect f (IsFree (law_table old) who (wants f (OnMap c) own (resting rest) v n)) (IsFirstConflict (law_table old) who (wants f (OnMap c) own (resting rest) v n))
        (Finds f (law_table old who) (wants f (OnMap c) own (resting rest) v n) (image_map f a)) (word f.order a 48) (OnMap c) n own (image_map f a) turn own (image_map f b)

    map_is : (m : Map) → IsMapOf f b m → image_map f b ≡ m
    map_is m M = maps_equal (image_map f b) m (λ q. image_answers f b q ∙ sym (M q))

    free_to : (turn : Turn) → GoesRightly old (who + 1) (locked_next ls n) turn → (u : Turn) → turn ≡ u → GoesRightly old (who + 1) (locked_next ls n) u
    free_to turn G u e = subst (GoesRightly old (who + 1) (locked_next ls n)) e G

    as_told : (turn u : Turn) → turn ≡ u → Effected (recounted u) → Effected (recounted turn)
    as_told turn u e E = subst (λ t. Effected (recounted t)) (sym e) E

    pub plain_effect : (turn : Turn) → GoesRightly old (who + 1) (locked_next ls n) turn → MapTurned f b c n (image_map f a) turn → Effected (recounted turn)
    plain_effect turn G (map_waits o byte e before M) =
        as_told turn (Blocked o byte) e (effect_waits (o - 1) byte refl (first_want v o byte (free_to turn G (Blocked o byte) e)) (changed_is n ∙ before) (map_is (image_map f a) M) refl)
    plain_effect turn G (map_goes_on e same M) =
        as_told turn Step e (effect_goes_on refl (free_want v (free_to turn G Step e)) (changed_is (n + 1) ∙ same ∙ sym (changed_is n)) (map_is (image_map f a) M) refl)
    plain_effect turn G (map_changes e late before now done M) =
        as_told turn Step e
        (effect_changes refl (free_want v (free_to turn G Step e)) (ready late) (changed_is n ∙ before) (changed_is (n + 1) ∙ now) (told_is (image_map f a) ∙ done)
        (map_is (after c (image_map f a)) M ∙ sym (after_is (image_map f a))) refl)
    plain_effect turn G (map_answers r e late before says M) =
        as_told turn (Ends r) e
        (effect_answers (recounted_reply r) refl (free_want v (free_to turn G (Ends r) e)) (ap (λ q. moves_by q (OnMap c) own) R) (ap (λ q. counts_by q (OnMap c)) R) (λ k reading. ready late) (changed_is n ∙ before)
        (ap recounted_reply says ∙ told_same c (image_map f a) ∙ sym (told_is (image_map f a))) (map_is (after c (image_map f a)) M ∙ sym (after_is (image_map f a))) (stays (recounted_reply r) (image_map f a)))
    plain_effect turn G (map_starves e before M) =
        as_told turn (Ends Memory) e (effect_starves refl (ap (λ q. starves_by q (OnMap c) own) R) (changed_is n ∙ before) (map_is (image_map f a) M) refl)
    plain_effect turn G (map_is_full len need e fills late before done M) =
        as_told turn (Ends (Full len need)) e
        (effect_is_full len need refl (free_want v (free_to turn G (Ends (Full len need)) e)) (ap (λ q. fills_by q (OnMap c) own) R ∙ fills) (λ k reading. ready late) (changed_is n ∙ before) (told_is (image_map f a) ∙ done)
        (map_is (image_map f a) M) refl)
    plain_effect turn G (map_finishes e made M) =
        as_told turn (Ends Done) e (effect_finishes refl (free_want v (free_to turn G (Ends Done) e)) (changed_is n ∙ made) (map_is (image_map f a) M) (stays Done (image_map f a)))

  -- the sequence number
  number_cases : (done changes counting : Bool) (q : ℕ) → raised (done && (changes && counting)) q ≡ (if done then (if changes then raised counting q else q) else q)
  number_cases true true counting q = refl
  number_cases true false counting q = refl
  number_cases false changes counting q = refl

  pub plain_number : (turn : Turn) (q : ℕ) → number_after options.seqnum c turn q ≡ number_next f (OnMap c) n own (recounted turn) q 0
  plain_number Step q = sym (ap (λ r. if brings_by r (OnMap c) own && is_changed f (OnMap c) own (n + 1) then 0 else q) R)
  plain_number (Blocked o byte) q = refl
  plain_number (Ends r) q =
      number_cases (is_done r) (may_change c) options.seqnum q
      ∙ ap (λ z. if z then (if may_change c then raised options.seqnum q else q) else q) (sym (same_done r))
      ∙ sym (ap (λ z. if is_done (recounted_reply r) then number_by z (OnMap c) own q 0 else q) R)
