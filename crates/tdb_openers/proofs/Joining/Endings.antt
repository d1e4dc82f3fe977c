-- The turns that end a command at once, in the words of the law.
use Rattle.std.proofs.Common.{◌≡◌, ℕ, ◌+◌, max, ◌==◌, List, [], Bool, true, false, None, Some, is_some, refl, sym, ◌∙◌, ap, subst, inl, arith}
use Rattle.std.specs.Prelude.{◌&&◌, if◌then◌else◌}
use Rattle.tdb_words.specs.Word.{word}
use Rattle.tdb_space.specs.Form.{Form}
use Rattle.tdb_locks.specs.LockTable.{held}
use Rattle.tdb_locks.specs.declared.piece.Piece.{Piece}
use Rattle.tdb_law.specs.Commands.{Command, Reply, is_done}
use Rattle.tdb_law.specs.Commands.Command.{OnMap, OnLocks, Seqnum, OnGroup, OnWalk}
use Rattle.tdb_law.specs.Commands.GroupCommand.{Start, Commit, Prepare, Cancel}
use Rattle.tdb_law.specs.Commands.WalkCommand.{Next}
use Rattle.tdb_law.specs.Commands.Reply.{End}
use Rattle.tdb_law.specs.Commands.Turn.{Ends}
use Rattle.tdb_law.specs.Openers.{Own, View, outside}
use Rattle.tdb_law.specs.Refusals.{Refusal, refusal, says}
use Rattle.tdb_law.specs.Rows.{is_changed, changed_by, locks, walk_locks}
use Rattle.tdb_law.specs.Outcomes.{moves, moves_by, counts_by, told_by, map_by, reads_by, own_by, own_left, own_refused}
use Rattle.tdb_law.specs.Ends.{ends_by, walk_ends}
use Rattle.tdb_law.specs.Held.{wanted, locked_next, move_turn, is_chain}
use Rattle.tdb_law.specs.Effects.{IsFree}
use Rattle.tdb_law.specs.Effects.Effect.{effect_answers}
use Rattle.tdb_law.specs.Counting.{number_by}
use Rattle.tdb_law.specs.Images.{image_map}
use Rattle.tdb_law.proofs.Covered.{none_held}
use Rattle.tdb_commands.specs.InLaw.{law_command}
use Rattle.tdb_commands.specs.declared.command.Command.{Command as GivenCommand}
use Rattle.tdb_walk.proofs.Holding.{granted, locks_are}
use Rattle.tdb_walk.proofs.Rows.{row_end, counts_no, told_is, map_is, own_is, ready, unchanged, number_is}
use Rattle.tdb_openers.specs.Openers.{AtRest, IsRefused}
use Rattle.tdb_openers.specs.Openers.IsRefused.{refuses, has_ended}
use Rattle.tdb_openers.specs.Turning.{law_table, wants, resting, OpenerHolds}
use Rattle.tdb_openers.specs.Ended.{EndTurned}
use Rattle.tdb_openers.proofs.ExplicitLocks.Shifted.{apart_less, turned_locks, at_most_two}

-- a command that is refused leaves an opener that has no transaction
pub refused_same : (c : Command) (x : Own) → x.txn ≡ None → own_refused c x ≡ x
refused_same (OnMap c) x out = refl
refused_same (OnLocks c) x out = refl
refused_same Seqnum x out = refl
refused_same (OnGroup Start) x out = refl
refused_same (OnGroup Commit) x out = ap (λ o. own_left o x) out
refused_same (OnGroup Prepare) x out = ap (λ o. own_left o x) out
refused_same (OnGroup Cancel) x out = refl
refused_same (OnWalk w) x out = refl

-- a refused command wants nothing
refused_wants : (f : Form) (c : Command) (x : Own) (rest : AtRest) (v : View) (q : Refusal) → refusal f c x ≡ Some q → (b : ℕ) → wants f c x (resting rest) v 0 b ≡ 0
unfolding wanted
refused_wants f (OnMap c) x rest v q R b = rw R refl
refused_wants f (OnLocks c) x rest v q R b = rw R refl
refused_wants f Seqnum x rest v q R b = rw R refl
refused_wants f (OnGroup c) x rest v q R b = rw R refl
refused_wants f (OnWalk w) x rest v q R b = rw R refl

refused_unchanged : (f : Form) (c : Command) (x : Own) (q : Refusal) → refusal f c x ≡ Some q → is_changed f c x 0 ≡ false
unfolding is_changed
refused_unchanged f c x q R = ap (λ p. changed_by p c x 0) R

module _ (f : Form) (x : Own) (rest : AtRest) (v : View) (c : Command) (who : ℕ) (ps : List Piece) where
  -- where nothing is wanted nothing is in the way
  nothing_wanted : ((b : ℕ) → wants f c x (resting rest) v 0 b ≡ 0) → IsFree (law_table ps) who (wants f c x (resting rest) v 0)
  nothing_wanted none = record { free = λ o b differs. let w = none b in let most = at_most_two (held ps (o + 1) b) in omega (arith, w, most) }

-- a number that nothing raises
same_number : (t : Bool) (n : ℕ) → n ≡ (if t then n else n)
same_number true n = refl
same_number false n = refl

module _ (f : Form) (x : Own) (rest : AtRest) (v : View) (c : GivenCommand) (who : ℕ) (ps : List Piece) (r : Reply) (out : x.txn ≡ None) (H : OpenerHolds f x (resting rest) (law_command c) 0 who ps) where
  abbrev k : Command
  k = law_command c

  why_ends : (why : Refusal) → refusal f k x ≡ Some why → r ≡ says x why → EndTurned f x x (resting rest) v k who ps ps r
  why_ends why refused told = record {
    locks = turned_locks f x x (resting rest) (resting rest) k 0 who ps ps H (Ends r) (inl (ap (λ q. ends_by q k x 0 r) refused)) (λ b. let whole = H.holds b in let none = none_held f k x (resting rest) b in omega (arith, whole, none)) (λ o b differs. refl)
        (apart_less f x x (resting rest) (resting rest) k 0 who ps ps H (λ b. omega arith));
    file = λ img. record {
      effect = effect_answers r refl (nothing_wanted f x rest v k who ps (refused_wants f k x rest v why refused)) (ap (λ q. moves_by q k x) refused) (ap (λ q. counts_by q k) refused)
          (λ key reads. absurd (let e : false ≡ true = sym (ap (λ q. reads_by q k x key) refused) ∙ reads in cc e)) (refused_unchanged f k x why refused)
          (told ∙ sym (ap (λ q. told_by q k x (image_map f img)) refused)) (sym (ap (λ q. map_by q k x (image_map f img)) refused))
          (sym (ap (λ q. own_by f q k x 0 r (image_map f img)) refused ∙ refused_same k x out));
      number = same_number (is_done r) (word f.order img 48) ∙ ap (λ n. if is_done r then n else word f.order img 48) (sym (ap (λ q. number_by q k x (word f.order img 48) 0) refused));
    };
  }

-- a Next without a cursor neither moves nor wants anything
next_still : (f : Form) (x : Own) → x.txn ≡ None → x.cursor ≡ None → moves f (OnWalk Next) x ≡ false
next_still f x out none = ap (λ q. moves_by q (OnWalk Next) x) (granted f Next x out) ∙ ap is_some none

next_wants : (f : Form) (x : Own) (rest : AtRest) (v : View) → x.txn ≡ None → x.cursor ≡ None → (b : ℕ) → wants f (OnWalk Next) x (resting rest) v 0 b ≡ 0
unfolding wanted
next_wants f x rest v out none b =
    let bare : locks f (OnWalk Next) x v.must ≡ [] = locks_are f Next x v.must out ∙ ap (λ o. walk_locks f Next o v.must) none in
    λ i. max (locked_next (bare i) 0 b) (if (next_still f x out none i && (0 == move_turn Next v.must x.cursor)) && (outside x && (is_chain f b && v.way b)) then 1 else 0)

module _ (f : Form) (x : Own) (rest : AtRest) (v : View) (who : ℕ) (ps : List Piece) (out : x.txn ≡ None) (none : x.cursor ≡ None) (H : OpenerHolds f x (resting rest) (OnWalk Next) 0 who ps) where
  next_ends : EndTurned f x x (resting rest) v (OnWalk Next) who ps ps End
  next_ends = record {
    locks = turned_locks f x x (resting rest) (resting rest) (OnWalk Next) 0 who ps ps H (Ends End) (row_end f Next x out 0 End (ap (λ o. walk_ends Next o 0) none))
        (λ b. let whole = H.holds b in let bare = none_held f (OnWalk Next) x (resting rest) b in omega (arith, whole, bare)) (λ o b differs. refl)
        (apart_less f x x (resting rest) (resting rest) (OnWalk Next) 0 who ps ps H (λ b. omega arith));
    file = λ img. record {
      effect = effect_answers End refl (nothing_wanted f x rest v (OnWalk Next) who ps (next_wants f x rest v out none)) (next_still f x out none) (counts_no f Next x out) (ready f Next x out 0) (unchanged f Next x out 0)
          (sym (told_is f Next x out (image_map f img))) (sym (map_is f Next x out (image_map f img)))
          (sym (own_is f Next x out 0 End (image_map f img) ∙ (λ i. record x { cursor = sym none i })));
      number = sym (number_is f Next x out 0 (Ends End) (word f.order img 48) 0);
    };
  }

pub refused_ends : (f : Form) (x : Own) (rest : AtRest) (v : View) (c : GivenCommand) (who : ℕ) (ps : List Piece) (r : Reply) → x.txn ≡ None → IsRefused f x (law_command c) r → OpenerHolds f x (resting rest) (law_command c) 0 who ps → EndTurned f x x (resting rest) v (law_command c) who ps ps r
refused_ends f x rest v c who ps r free (refuses why refused told) H = why_ends f x rest v c who ps r free H why refused told
refused_ends f x rest v c who ps r free (has_ended is out none told) H =
    subst (λ z. EndTurned f x x (resting rest) v (law_command c) who ps ps z) (sym told)
    (subst (λ d. EndTurned f x x (resting rest) v d who ps ps End) (sym is) (next_ends f x rest v who ps out none (subst (λ d. OpenerHolds f x (resting rest) d 0 who ps) is H)))
