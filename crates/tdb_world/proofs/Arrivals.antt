-- A world into which an opener comes, and one into which nobody has come.
use Rattle.std.proofs.Common.{◌≡◌, ◌≤◌, ◌<◌, ℕ, zero, suc, ◌+◌, List, [], ◌∷◌, ◌++◌, slice_get, length, Option, Bool, true, false, Some, None, refl, sym, ◌∙◌, ap, subst, arith, inl, inr, length-append}
use Rattle.std.proofs.lemmas.Bool.{cases_eq}
use Rattle.std.proofs.lemmas.Option.{slice_get_past}
use Rattle.tdb_disk.specs.History.{History, seen}
use Rattle.tdb_space.specs.Form.{Form, form_in}
use Rattle.tdb_words.specs.declared.header.Header.{Header}
use Rattle.tdb_commands.specs.declared.options.Options.{Options}
use Rattle.tdb_law.specs.Beginning.{IsLoaded}
use Rattle.tdb_law.specs.Images.{image_map}
use Rattle.tdb_law.specs.Events.{Joins}
use Rattle.tdb_law.specs.Held.{kept, task_held}
use Rattle.tdb_law.specs.Openers.{Spot, nowhere}
use Rattle.tdb_law.specs.World.{State, IsSound}
use Rattle.tdb_law.proofs.Emptied.{before_event, other_event, sound_event}
use Rattle.tdb_law.proofs.Kept.{opened_base}
use Rattle.tdb_law.proofs.Walking.{put_here, put_else}
use Rattle.tdb_steps.specs.Turns.{number_of}
use Rattle.tdb_commands.specs.InLaw.{law_opener, options_of}
use Rattle.tdb_law.specs.OneAside.Sides.{Past, Side, alone, whole}
use Rattle.tdb_law.specs.OneAside.Starts.{with_starts, MayStart}
use Rattle.tdb_law.proofs.OneAside.Happening.{joins_beside}
use Rattle.tdb_law.proofs.OneAside.Starting.{starts_join, task_not}
use Rattle.tdb_txn_owner.specs.Holders.{HolderState}
use Rattle.tdb_txn_owner.specs.Stages.{IsSide, Known}
use Rattle.tdb_openers.specs.Aside.{LocksNoRecord}
use Rattle.tdb_openers.specs.Laws.{IsJoined}
use Rattle.tdb_openers.specs.Worlds.{World, fresh, state_in, BytesStand, IsNumber, Stands}
use Rattle.tdb_openers.specs.declared.opener.Opener.{Opener}
use Rattle.tdb_openers.proofs.Joining.Opening.{low_is_free}
use Rattle.tdb_openers.proofs.ExplicitLocks.Aside.{one_number}
use Rattle.tdb_openers.proofs.Joining.Arriving.{join_keeps_world, join_keeps_file, join_joins}
use Rattle.tdb_world.specs.States.{IsSeen, IsStaleState, IsStateOf, IsWholeState, SideIs}
use Rattle.tdb_world.specs.States.IsStateOf.{of_whole, of_stale}
use Rattle.tdb_world.specs.Steps.{JoinLeads}
use Rattle.tdb_world.specs.Whole.{Whole, AsideFits, StartFits, WorldFits, form_at, is_starting, is_yes, options_at}
use Rattle.tdb_world.proofs.Standings.{any_image, may_start, may_start_whole, stands_by}

-- A world stays sound when an opener joins: it has nothing.
pub joined_sound : (f : Form) (old new : State) (who : ℕ) → IsSound f old → Joins f old who new → IsSound f new
joined_sound f old new who S J =
    let St = J.stay in
    let N = J.nothing in
    sound_event f old new who St N S
    (λ b. subst (λ y. kept f y nowhere b ≤ 0) (sym J.own) (let le = opened_base f 0 b (old.own who) in omega (arith, le)))
    (λ o live. (elim (cases_eq o who) [
      | inl e ↦ omega (arith, J.joined, J.first, e)
      | inr ne ↦ omega (arith, J.joined, S.live_joined o (ap (λ y. y.live) (sym (St.own o ne)) ∙ live))
    ]))
    (λ stale o d y k p touching. S.stale (sym J.stale ∙ stale) o d y k (before_event f old new who St N o d y (other_event f old new who St N o d y p) p) touching)

-- One more opener, without a Start.
pushed_false : (starts : List Bool) (o : ℕ) → is_starting (starts ++ (false ∷ [])) o ≡ is_starting starts o
pushed_false [] zero = refl
pushed_false [] (suc o) = refl
pushed_false (b ∷ starts) zero = refl
pushed_false (b ∷ starts) (suc o) = pushed_false starts o

still_there : (xs ys : List Opener) (o : ℕ) (x : Opener) → slice_get xs o ≡ Some x → slice_get (xs ++ ys) o ≡ Some x
still_there [] ys o x e = absurd (cc e)
still_there (z ∷ xs) ys zero x e = e
still_there (z ∷ xs) ys (suc o) x e = still_there xs ys o x e

abbrev pub with_fresh : World → World
with_fresh w = record w { openers = w.openers ++ (fresh ∷ []) }

abbrev pub joined_world : Whole → Whole
joined_world w = record w { openers = with_fresh w.openers; starts = w.starts ++ (false ∷ []) }

comes : (w : World) → IsJoined w.openers fresh (with_fresh w).openers
comes w = record { pushed = refl; live = refl; idle = refl; nothing = refl; bare = refl }

start_stays : (w : Whole) (o : ℕ) → StartFits w o → StartFits (joined_world w) o
start_stays w o F = record { opener = F.opener; there = still_there w.openers.openers (fresh ∷ []) o F.opener F.there; bare = F.bare; none = F.none; writes = F.writes }

number_stays : (w : World) (who : ℕ) (x : Opener) → IsNumber w who x → IsNumber (with_fresh w) who x
number_stays w who x N = record { place = N.place; counted = N.counted; there = still_there w.openers (fresh ∷ []) N.place x N.there }

holder_stays : (w : Whole) (holder : Option HolderState) (size : ℕ) → AsideFits w holder size → AsideFits (joined_world w) holder size
holder_stays w None size F = tt
holder_stays w (Some h) size F = record {
  opener = F.opener;
  number = number_stays w.openers h.owner F.opener F.number;
  bare = F.bare;
  writes = F.writes;
  reads = F.reads;
  fit = F.fit;
  begun = pushed_false w.starts _ ∙ F.begun;
}

pub joined_fits : (w : Whole) (img : List ℕ) (size : ℕ) → length w.openers.openers < 1000 → WorldFits w img size → WorldFits (joined_world w) img size
joined_fits w img size few F = record {
  openers = join_keeps_world (form_at w) w.openers.options w.openers.openers (with_fresh w.openers).openers w.openers.table img size fresh F.openers (comes w.openers) few;
  each = let each = F.each in simp length-append (omega (arith, each));
  starts = λ o e. start_stays w o (F.starts o (sym (pushed_false w.starts o) ∙ e));
  aside = holder_stays w w.aside size F.aside;
  stale = λ e. record {
    nobody = (F.stale e).nobody;
    lengths = λ i n short. join_keeps_world (form_at w) w.openers.options w.openers.openers (with_fresh w.openers).openers w.openers.table i n fresh ((F.stale e).lengths i n short) (comes w.openers) few;
  };
}

-- A state of the world is one of that.
module _ (w : Whole) (any : List ℕ) (size : ℕ) (few : length w.openers.openers < 1000) (F : WorldFits w any size) (h : History) where
  abbrev v : Whole
  v = joined_world w

  abbrev f : Form
  f = form_at w

  abbrev who : ℕ
  who = length w.openers.openers

  seen_stays : (img : List ℕ) → IsSeen w h img → IsSeen v h img
  seen_stays img S = record { image = S.image; bytes = join_keeps_file f w.openers.openers (with_fresh w.openers).openers img fresh S.bytes (comes w.openers) }

  side_stays : (holder : Option HolderState) → AsideFits w holder size → (img : List ℕ) (past : Past) (side : Option Side) → SideIs w holder h img past side → SideIs v holder h img past side
  side_stays None HF img past None is = seen_stays img is
  side_stays None HF img past (Some s) is = absurd is
  side_stays (Some holder) HF img past None is = absurd is
  side_stays (Some holder) HF img past (Some s) A = record {
    known = A.known;
    image = A.image;
    side = A.side;
    file = A.file;
    records = λ x N.
        ap (λ (z : Opener). z.held.all) (one_number v.openers holder.owner x HF.opener N (number_stays w.openers holder.owner HF.opener HF.number)) ∙ A.records HF.opener HF.number;
    shuts = A.shuts;
    accepted = A.accepted;
    others = λ e. seen_stays img (A.others e);
    number = A.number;
    heads = A.heads;
  }

  abbrev before : List ℕ → State
  before img = state_in w.openers img

  abbrev later : List ℕ → State
  later img = state_in v.openers img

  plain_joins : (img : List ℕ) → Joins f (before img) who (later img)
  plain_joins img = join_joins f w.openers.options w.openers.openers (with_fresh w.openers).openers w.openers.table img size fresh (any_image w.openers any img size F.openers) (comes w.openers) few

  none_new : is_starting w.starts who ≡ false
  none_new = ap is_yes (slice_get_past w.starts who (let each = F.each in omega (arith, each)))

  same_starts : (p : State) → with_starts (is_starting w.starts) p ≡ with_starts (is_starting v.starts) p
  same_starts p = λ i. with_starts (λ o. sym (pushed_false w.starts o) i) p

  with_their_starts : (p q : State) → MayStart (is_starting w.starts) p → Joins f p who q → Joins f (with_starts (is_starting w.starts) p) who (with_starts (is_starting v.starts) q)
  with_their_starts p q M J = subst (λ z. Joins f (with_starts (is_starting w.starts) p) who z) (same_starts q) (starts_join f p q (is_starting w.starts) who M none_new J).1

  module _ (state : State) (shut : (o : ℕ) → state.table o 0 ≡ 0) where
    module _ (S : IsWholeState w h state) where
      abbrev p : State
      p = whole (before S.image) S.past S.side

      abbrev q : State
      q = whole (later S.image) S.past S.side

      whole_joins : Joins f p who q
      whole_joins =
          (joins_beside f (before S.image) (later S.image) S.past S.side who (stands_by w w.aside any size F.openers F.aside h S.image S.past S.side S.is_side)
          (λ o. ap (λ (z : State). z.table o 0) (sym S.is) ∙ shut o) (plain_joins S.image)).1

      whole_later : IsWholeState v h (with_starts (is_starting v.starts) q)
      whole_later = record {
        fresh = S.fresh;
        image = S.image;
        past = S.past;
        side = S.side;
        is_side = side_stays w.aside F.aside S.image S.past S.side S.is_side;
        sound = joined_sound f p q who S.sound whole_joins;
        is = refl;
      }

      state_joins : Joins f state who (with_starts (is_starting v.starts) q)
      state_joins =
          subst (λ z. Joins f z who (with_starts (is_starting v.starts) q)) (sym S.is)
          (with_their_starts p q (may_start_whole w any size F S.image w.aside F.aside h S.past S.side S.is_side) whole_joins)

    module _ (S : IsStaleState w h state) where
      abbrev stale_at : State → State
      stale_at z = record (alone z S.past) { stale = true }

      apart : (o : ℕ) → LocksNoRecord f (later S.image) o
      apart o = elim (cases_eq o who) [
        | inl e ↦ (let N = (plain_joins S.image).nothing in record {
          command = λ b from upto. ap (λ t. task_held f ((later S.image).own o) ((later S.image).spot o) t b) (ap (later S.image).task e ∙ N.task);
          cursor = ap (λ (z : Spot). z.stands) (ap (later S.image).spot e ∙ N.spot);
        })
        | inr ne ↦ (let St = (plain_joins S.image).stay in record {
          command = λ b from upto.
              ap (λ x. task_held f x ((later S.image).spot o) ((later S.image).task o) b) (St.own o ne)
              ∙ (ap (λ z. task_held f ((before S.image).own o) z ((later S.image).task o) b) (St.spot o ne)
              ∙ (ap (λ t. task_held f ((before S.image).own o) ((before S.image).spot o) t b) (St.task o ne) ∙ (S.apart o).command b from upto));
          cursor = ap (λ (z : Spot). z.stands) (St.spot o ne) ∙ (S.apart o).cursor;
        })
      ]

      stale_joins : Joins f (stale_at (before S.image)) who (stale_at (later S.image))
      stale_joins =
          let J = (joins_beside f (before S.image) (later S.image) S.past None who tt (λ o. ap (λ (z : State). z.table o 0) (sym S.is) ∙ shut o) (plain_joins S.image)).1 in
          record {
            first = J.first;
            few = J.few;
            closed_lock = J.closed_lock;
            stay = record {
              file = J.stay.file;
              task = J.stay.task;
              own = J.stay.own;
              spot = J.stay.spot;
              table = J.stay.table;
              walk = J.stay.walk;
              number = J.stay.number;
              image_number = J.stay.image_number;
              settled = J.stay.settled;
            };
            nothing = record { task = J.nothing.task; spot = J.nothing.spot; table = J.nothing.table };
            own = J.own;
            joined = J.joined;
            stale = refl;
          }

      stale_later : IsStaleState v h (with_starts (is_starting v.starts) (stale_at (later S.image)))
      stale_later = record {
        stale = S.stale;
        nobody = S.nobody;
        image = S.image;
        past = S.past;
        undone = S.undone;
        form = S.form;
        reopens = S.reopens;
        accepted = S.accepted;
        apart = apart;
        sound = joined_sound f (stale_at (before S.image)) (stale_at (later S.image)) who S.sound stale_joins;
        is = refl;
      }

      stale_state_joins : Joins f state who (with_starts (is_starting v.starts) (stale_at (later S.image)))
      stale_state_joins =
          subst (λ z. Joins f z who (with_starts (is_starting v.starts) (stale_at (later S.image)))) (sym S.is)
          (with_their_starts (stale_at (before S.image)) (stale_at (later S.image)) (let M = may_start w any size F S.image in record { live = M.live; idle = M.idle }) stale_joins)

    pub state_joined : IsStateOf w h state → (after : State) × IsStateOf v h after × Joins f state who after
    state_joined (of_whole S) = (with_starts (is_starting v.starts) (q S), of_whole (whole_later S), state_joins S)
    state_joined (of_stale S) = (with_starts (is_starting v.starts) (stale_at S (later S.image)), of_stale (stale_later S), stale_state_joins S)

-- Nobody holds the opening lock, where the one aside doesn't hold it.
low_free : (w : World) (any : List ℕ) (size : ℕ) → Stands w any size → (img : List ℕ) (o : ℕ) → (state_in w img).table o 0 ≡ 0
low_free w any size W img o = low_is_free (form_in w.header) w.options w.openers w.table any size W (o + 1) 0 (omega arith)

abbrev pub LeavesOpen : Whole → Option HolderState → Type 0
LeavesOpen w None = Unit {0}
LeavesOpen w (Some h) = (k : Known) (past : Past) (s : Side) → IsSide (form_at w) (options_at w) h.owner h.locks h.stage k past s → s.table 0 ≡ 0

side_free : (w : Whole) (any : List ℕ) (size : ℕ) → Stands w.openers any size → (holder : Option HolderState) → LeavesOpen w holder → (h : History) (img : List ℕ) (past : Past) (side : Option Side) → SideIs w holder h img past side → (o : ℕ)
    → (whole (state_in w.openers img) past side).table o 0 ≡ 0
side_free w any size W None L h img past None is o = low_free w.openers any size W img o
side_free w any size W None L h img past (Some s) is o = absurd is
side_free w any size W (Some holder) L h img past None is o = absurd is
side_free w any size W (Some holder) L h img past (Some s) A o =
    let p = state_in w.openers img in
    elim (cases_eq o s.here) [
      | inl e ↦ ap (λ g. g 0) (put_here p.table s.here s.table o e) ∙ L A.known past s A.side
      | inr ne ↦ ap (λ g. g 0) (put_else p.table s.here s.table o ne) ∙ low_free w.openers any size W img o
    ]

pub opening_free : (w : Whole) (any : List ℕ) (size : ℕ) → Stands w.openers any size → LeavesOpen w w.aside → (h : History) (state : State) → IsStateOf w h state → (o : ℕ) → state.table o 0 ≡ 0
opening_free w any size W L h state (of_whole S) o = ap (λ (z : State). z.table o 0) S.is ∙ side_free w any size W w.aside L h S.image S.past S.side S.is_side o
opening_free w any size W L h state (of_stale S) o = ap (λ (z : State). z.table o 0) S.is ∙ low_free w.openers any size W S.image o

-- so of a world that is this one
pub fits_joined : (w v : Whole) → v ≡ joined_world w → length w.openers.openers < 1000 → (img : List ℕ) (size : ℕ) → WorldFits w img size → WorldFits v img size
fits_joined w v e few img size F = subst (λ z. WorldFits z img size) (sym e) (joined_fits w img size few F)

pub join_leads : (w v : Whole) → v ≡ joined_world w → length w.openers.openers < 1000 → (who : ℕ) → who ≡ length w.openers.openers + 1 → (any : List ℕ) (size : ℕ) → WorldFits w any size
    → ((h : History) (state : State) → IsStateOf w h state → (o : ℕ) → state.table o 0 ≡ 0) → (h : History) → JoinLeads w v h who
join_leads w v e few who number any size F shut h state is =
    let J = state_joined w any size few F h state (shut h state is) is in
    let place : length w.openers.openers ≡ law_opener who = omega (arith, number) in
    (J.0, subst (λ z. IsStateOf z h J.0) (sym e) J.1, subst (λ o. Joins (form_at w) state o J.0) place J.2)

-- The state of a world into which nobody has come.
abbrev nothing_past : Past
nothing_past = record { settled = false; numbers = λ o. 0 }

module _ (w : Whole) (header : Header) (options : Options) (same_header : w.openers.header ≡ header) (aside : w.aside ≡ None) (fresh_world : w.stale ≡ false) (starts : w.starts ≡ []) (h : History)
    (W : Stands w.openers (seen h) 0) (B : BytesStand w.openers (seen h)) (L : IsLoaded (form_in header) (state_in w.openers (seen h)) (options_of options)) where
  abbrev p0 : State
  p0 = state_in w.openers (seen h)

  abbrev empty : State
  empty = with_starts (is_starting w.starts) (alone p0 nothing_past)

  none_starts : (o : ℕ) → is_starting w.starts o ≡ false
  none_starts o = ap (λ l. is_starting l o) starts

  empty_is : IsWholeState w h empty
  empty_is = record {
    fresh = fresh_world;
    image = seen h;
    past = nothing_past;
    side = None;
    is_side = subst (λ z. SideIs w z h (seen h) nothing_past None) (sym aside) (record { image = refl; bytes = B });
    sound = record {
      chains = W.sound.chains;
      agrees = W.sound.agrees;
      apart = W.sound.apart;
      stands = W.sound.stands;
      busy_there = W.sound.busy_there;
      live_joined = W.sound.live_joined;
      stale = λ was o d x k P. absurd (cc was);
    };
    is = refl;
  }

  empty_loaded : IsLoaded (form_in header) empty (options_of options)
  empty_loaded = record {
    chains = L.chains;
    joined = L.joined;
    task = λ o. task_not (is_starting w.starts) (alone p0 nothing_past) o (none_starts o) ∙ L.task o;
    own = L.own;
    spot = L.spot;
    table = L.table;
    stale = refl;
    settled = refl;
    image_number = λ o. refl;
  }

  pub empty_state : (state : State) × IsStateOf w h state × IsLoaded (form_in header) state (options_of options) × (state.file ≡ image_map (form_in header) (seen h)) × (state.number ≡ number_of (form_in header) (seen h))
  empty_state = (empty, of_whole empty_is, empty_loaded, ap (λ z. image_map (form_in z) (seen h)) same_header, ap (λ z. number_of (form_in z) (seen h)) same_header)
