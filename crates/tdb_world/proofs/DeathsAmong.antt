-- One of the others dies.
use Rattle.std.proofs.Common.{◌≡◌, ◌≢◌, ◌≤◌, ℕ, ◌+◌, List, Option, Bool, true, false, Some, None, refl, sym, ◌∙◌, ap, subst, inl, inr, arith}
use Rattle.std.proofs.lemmas.Bool.{cases_eq}
use Rattle.tdb_disk.specs.History.{History}
use Rattle.tdb_space.specs.Form.{Form}
use Rattle.tdb_locks.specs.declared.piece.Piece.{Piece}
use Rattle.tdb_law.specs.Commands.{Command}
use Rattle.tdb_law.specs.Events.{Dies, HasNothing, OthersStay}
use Rattle.tdb_law.specs.Held.{kept, task_held}
use Rattle.tdb_law.specs.Openers.{Own, Spot, nowhere}
use Rattle.tdb_law.specs.Outcomes.{touches}
use Rattle.tdb_law.specs.World.{State, IsPending, IsSound}
use Rattle.tdb_law.proofs.Emptied.{before_event, other_event, sound_event}
use Rattle.tdb_law.proofs.Kept.{closed_base}
use Rattle.tdb_law.proofs.Tests.{never_true}
use Rattle.tdb_steps.specs.Holdings.{strength}
use Rattle.tdb_commands.specs.InLaw.{law_opener}
use Rattle.tdb_law.specs.OneAside.Sides.{Past, Side, alone, whole}
use Rattle.tdb_law.specs.OneAside.Starts.{with_starts}
use Rattle.tdb_law.proofs.OneAside.Happening.{dies_beside}
use Rattle.tdb_law.proofs.OneAside.Starting.{starts_die}
use Rattle.tdb_txn_owner.specs.Holders.{HolderState}
use Rattle.tdb_openers.specs.Aside.{LocksNoRecord}
use Rattle.tdb_openers.specs.Died.{HasDied}
use Rattle.tdb_openers.specs.Worlds.{World, state_in, BytesStand, Stands}
use Rattle.tdb_openers.specs.declared.opener.Opener.{Opener}
use Rattle.tdb_openers.proofs.Joining.Putting.{by_number}
use Rattle.tdb_world.specs.States.{IsSeen, IsStaleState, IsStateOf, IsWholeState, SideIs}
use Rattle.tdb_world.specs.States.IsStateOf.{of_whole, of_stale}
use Rattle.tdb_world.specs.Steps.{IsAmong}
use Rattle.tdb_world.specs.Whole.{Whole, AsideFits, StaleFits, StartFits, WorldFits, form_at, is_starting}
use Rattle.tdb_world.proofs.Claimed.{with_list}
use Rattle.tdb_world.proofs.Gifts.{apart_holder}
use Rattle.tdb_world.proofs.OthersKept.{OneChanges}
use Rattle.tdb_world.proofs.Standings.{may_start, may_start_whole, side_else, stands_by}

-- A world stays sound when an opener dies, which has nothing then. Where a gate is left open nobody has a change
-- pending.
pub died_sound : (f : Form) (old new : State) (who : ℕ) → IsSound f old → Dies f old who new
    → (new.stale ≡ true → (o : ℕ) (d : Command) (y : Own) (k : List ℕ) → o ≢ who → IsPending f old o d y → touches f d y k ≡ true → ⊥) → IsSound f new
died_sound f old new who S D none =
    let St = D.stay in
    let N = D.nothing in
    sound_event f old new who St N S
    (λ b. subst (λ y. kept f y nowhere b ≤ 0) (sym D.own) (let le = closed_base f 0 b (old.own who) in omega (arith, le)))
    (λ o live. (elim (cases_eq o who) [
      | inl e ↦ absurd (never_true (sym (ap (λ y. y.live) (ap new.own e ∙ D.own)) ∙ live))
      | inr ne ↦ omega (arith, D.joined, S.live_joined o (ap (λ y. y.live) (sym (St.own o ne)) ∙ live))
    ]))
    (λ stale o d y k p touching. let ne = other_event f old new who St N o d y p in none stale o d y k ne (before_event f old new who St N o d y ne p) touching)

-- Who locks no record locks none when another opener has died.
pub apart_without : (f : Form) (old new : State) (who : ℕ) → OthersStay f old new who → HasNothing new who → ((o : ℕ) → LocksNoRecord f old o) → (o : ℕ) → LocksNoRecord f new o
apart_without f old new who St N apart o = elim (cases_eq o who) [
  | inl e ↦ record {
    command = λ b from upto. ap (λ t. task_held f (new.own o) (new.spot o) t b) (ap new.task e ∙ N.task);
    cursor = ap (λ (z : Spot). z.stands) (ap new.spot e ∙ N.spot);
  }
  | inr ne ↦ record {
    command = λ b from upto.
        ap (λ x. task_held f x (new.spot o) (new.task o) b) (St.own o ne)
        ∙ (ap (λ z. task_held f (old.own o) z (new.task o) b) (St.spot o ne) ∙ (ap (λ t. task_held f (old.own o) (old.spot o) t b) (St.task o ne) ∙ (apart o).command b from upto));
    cursor = ap (λ (z : Spot). z.stands) (St.spot o ne) ∙ (apart o).cursor;
  }
]

-- by a death only one opener changes
pub died_one : (w : World) (who : ℕ) (z : World) → HasDied w who z → OneChanges w.openers z.openers w.table z.table (law_opener who)
died_one w who z D =
    let at : law_opener who ≡ D.place = by_number who D.place D.counted in
    record {
      same_length = D.put.same_length;
      others = λ o ne. D.put.others o (λ is. ne (is ∙ sym at));
      table = λ o b ne. ap strength (D.others (o + 1) b (λ is. ne (let counted = D.counted in omega (arith, counted, is))));
    }

-- The world with these openers and locks, in which one opener has changed that had no Start.
module _ (w : Whole) (who : ℕ) (zs : List Opener) (rs : List Piece) (one : OneChanges w.openers.openers zs w.openers.table rs (law_opener who)) (ne : is_starting w.starts (law_opener who) ≡ false) (aside : Option HolderState) (stale : Bool) where
  abbrev pub without : Whole
  without = record w { openers = with_list w.openers zs rs; aside = aside; stale = stale }

  start_else : (o : ℕ) → is_starting w.starts o ≡ true → StartFits w o → StartFits without o
  start_else o e F = record {
    opener = F.opener;
    there = one.others o (λ is. never_true (sym ne ∙ ap (is_starting w.starts) (sym is) ∙ e)) ∙ F.there;
    bare = F.bare;
    none = F.none;
    writes = F.writes;
  }

  pub fits_without : (img : List ℕ) (size : ℕ) → Stands (with_list w.openers zs rs) img size → AsideFits without aside size → (stale ≡ true → StaleFits without) → WorldFits w img size → WorldFits without img size
  fits_without img size W A S F = record { openers = W; each = F.each ∙ sym one.same_length; starts = λ o e. start_else o e (F.starts o e); aside = A; stale = S }

-- a world is as stale with one aside as without
fresh_whole : (p : State) (past : Past) (side : Option Side) → (whole p past side).stale ≡ p.stale
fresh_whole p past None = refl
fresh_whole p past (Some s) = refl

-- One of the others dies.
module _ (w : Whole) (who : ℕ) (named : 1 ≤ who) (among : IsAmong w who) (ne : is_starting w.starts (law_opener who) ≡ false) (zs : List Opener) (rs : List Piece) (one : OneChanges w.openers.openers zs w.openers.table rs (law_opener who)) where
  abbrev pub left : Whole
  left = record w { openers = with_list w.openers zs rs }

  abbrev f : Form
  f = form_at w

  abbrev l : ℕ
  l = law_opener who

  holder_else : (holder : Option HolderState) → w.aside ≡ holder → (size : ℕ) → AsideFits w holder size → AsideFits left holder size
  holder_else None e size F = tt
  holder_else (Some h) e size F = record {
    opener = F.opener;
    number = record { place = F.number.place; counted = F.number.counted; there = one.others F.number.place (apart_holder w who named among h e F.number.place F.number.counted) ∙ F.number.there };
    bare = F.bare;
    writes = F.writes;
    reads = F.reads;
    fit = F.fit;
    begun = F.begun;
  }

  module _ (stands : (img : List ℕ) (size : ℕ) → Stands w.openers img size → Stands left.openers img size) (img : List ℕ) (size : ℕ) (F : WorldFits w img size) where
    stale_else : w.stale ≡ true → StaleFits left
    stale_else e = let S = F.stale e in record { nobody = S.nobody; lengths = λ i n short. stands i n (S.lengths i n short) }

    pub others_fit : WorldFits left img size
    others_fit = fits_without w who zs rs one ne w.aside w.stale img size (stands img size F.openers) (holder_else w.aside refl size F.aside) stale_else F

  module _ (any : List ℕ) (size : ℕ) (F : WorldFits w any size) (h : History) (bytes : (img : List ℕ) → BytesStand w.openers img → BytesStand left.openers img)
      (dies : (img : List ℕ) → Dies f (state_in w.openers img) l (state_in left.openers img)) (state : State) where
    seen_stays : (img : List ℕ) → IsSeen w h img → IsSeen left h img
    seen_stays img S = record { image = S.image; bytes = bytes img S.bytes }

    side_stays : (holder : Option HolderState) → w.aside ≡ holder → (img : List ℕ) (past : Past) (side : Option Side) → SideIs w holder h img past side → SideIs left holder h img past side
    side_stays None e img past None is = seen_stays img is
    side_stays None e img past (Some s) is = absurd is
    side_stays (Some holder) e img past None is = absurd is
    side_stays (Some holder) e img past (Some s) A = record {
      known = A.known;
      image = A.image;
      side = A.side;
      file = A.file;
      records = λ x N. A.records x (record { place = N.place; counted = N.counted; there = sym (one.others N.place (apart_holder w who named among holder e N.place N.counted)) ∙ N.there });
      shuts = A.shuts;
      accepted = A.accepted;
      others = λ none. seen_stays img (A.others none);
      number = A.number;
      heads = A.heads;
    }

    module _ (S : IsWholeState w h state) where
      abbrev p : State
      p = whole (state_in w.openers S.image) S.past S.side

      abbrev q : State
      q = whole (state_in left.openers S.image) S.past S.side

      whole_dies : Dies f p l q
      whole_dies =
          (dies_beside f (state_in w.openers S.image) (state_in left.openers S.image) S.past S.side l (stands_by w w.aside any size F.openers F.aside h S.image S.past S.side S.is_side)
          (side_else w who named among w.aside refl h S.image S.past S.side S.is_side) (dies S.image)).1

      whole_left : IsWholeState left h (with_starts (is_starting w.starts) q)
      whole_left = record {
        fresh = S.fresh;
        image = S.image;
        past = S.past;
        side = S.side;
        is_side = side_stays w.aside refl S.image S.past S.side S.is_side;
        sound = died_sound f p q l S.sound whole_dies (λ e. absurd (never_true (sym (fresh_whole (state_in left.openers S.image) S.past S.side) ∙ e)));
        is = refl;
      }

      state_dies : Dies f state l (with_starts (is_starting w.starts) q)
      state_dies =
          subst (λ z. Dies f z l (with_starts (is_starting w.starts) q)) (sym S.is)
          (starts_die f p q (is_starting w.starts) l (may_start_whole w any size F S.image w.aside F.aside h S.past S.side S.is_side) ne whole_dies).1

    module _ (S : IsStaleState w h state) where
      abbrev stale_at : State → State
      stale_at z = record (alone z S.past) { stale = true }

      abbrev u : State
      u = stale_at (state_in w.openers S.image)

      abbrev v : State
      v = stale_at (state_in left.openers S.image)

      stale_dies : Dies f u l v
      stale_dies =
          let D = dies S.image in
          let St = D.stay in
          record {
            live = D.live;
            may_die = D.may_die;
            stay = record {
              file = St.file;
              task = St.task;
              own = St.own;
              spot = St.spot;
              table = St.table;
              walk = St.walk;
              number = St.number;
              image_number = λ o. refl;
              settled = refl;
            };
            nothing = record { task = D.nothing.task; spot = D.nothing.spot; table = D.nothing.table };
            own = D.own;
            joined = D.joined;
            stale = refl;
          }

      stale_left : IsStaleState left h (with_starts (is_starting w.starts) v)
      stale_left = record {
        stale = S.stale;
        nobody = S.nobody;
        image = S.image;
        past = S.past;
        undone = S.undone;
        form = S.form;
        reopens = S.reopens;
        accepted = S.accepted;
        apart = (let D = dies S.image in apart_without f (state_in w.openers S.image) (state_in left.openers S.image) l D.stay D.nothing S.apart);
        sound = died_sound f u v l S.sound stale_dies (λ e o d y k other p touching. S.sound.stale refl o d y k p touching);
        is = refl;
      }

      stale_state_dies : Dies f state l (with_starts (is_starting w.starts) v)
      stale_state_dies =
          subst (λ z. Dies f z l (with_starts (is_starting w.starts) v)) (sym S.is)
          (starts_die f u v (is_starting w.starts) l (let M = may_start w any size F S.image in record { live = M.live; idle = M.idle }) ne stale_dies).1

    pub other_dies : IsStateOf w h state → (after : State) × IsStateOf left h after × Dies f state l after
    other_dies (of_whole S) = (with_starts (is_starting w.starts) (q S), of_whole (whole_left S), state_dies S)
    other_dies (of_stale S) = (with_starts (is_starting w.starts) (v S), of_stale (stale_left S), stale_state_dies S)
