-- What an opener sees in a state of a world is the map of an accepted image, which is no longer than the file may be.
use Rattle.std.proofs.Common.{◌≡◌, ℕ, ◌≤◌, Bool, true, false, List, [], ◌∷◌, length, Option, None, Some, is_some, refl, sym, ◌∙◌, ap, subst, inl, inr, arith, if◌then◌else◌}
use Rattle.std.specs.Prelude.{◌==◌, slice_get}
use Rattle.std.proofs.lemmas.Bool.{false≢true}
use Rattle.tdb_disk.specs.History.{History, seen}
use Rattle.tdb_words.specs.declared.header.Header.{Header}
use Rattle.tdb_words.specs.Header.{area_head}
use Rattle.tdb_words.specs.Word.{word}
use Rattle.tdb_space.specs.Accepted.{AcceptWith}
use Rattle.tdb_space.specs.Extents.{HandPair}
use Rattle.tdb_space.specs.Form.{Form, form_in, form_of}
use Rattle.tdb_space.specs.Opening.{Opens, entries, restored}
use Rattle.tdb_space.proofs.Opening.Undone.{undone_length, old_length, read_undone, read_as_it_is}
use Rattle.tdb_law.specs.Commands.Command.{OnWalk}
use Rattle.tdb_law.specs.Commands.WalkCommand.{First}
use Rattle.tdb_law.specs.Images.{image_map}
use Rattle.tdb_law.specs.Openers.{Own, Txn, Map, Task, image_or}
use Rattle.tdb_law.specs.Outcomes.{moves, moves_by}
use Rattle.tdb_law.specs.Refusals.{refusal, first_that_applies, is_prepared}
use Rattle.tdb_law.specs.Refusals.Refusal.{IsPrepared}
use Rattle.tdb_law.specs.World.{State}
use Rattle.tdb_locks.specs.declared.kind.Kind.{Kind}
use Rattle.tdb_txn.specs.Pages.{length_filled, byte_over}
use Rattle.tdb_txn.specs.Txn.{txn_pages}
use Rattle.tdb_law.specs.OneAside.Sides.{Past, Side}
use Rattle.tdb_law.specs.OneAside.Starts.{new_start}
use Rattle.tdb_txn_owner.specs.Holders.{HolderState}
use Rattle.tdb_txn_owner.specs.Stages.{Known, KnowsAt, OwnIs, IsFit, stage_records, stage_task}
use Rattle.tdb_txn_owner.specs.declared.stage.Stage.{Stage}
use Rattle.tdb_txn_owner.specs.declared.stage.Stage.TheVariants as At
use Rattle.tdb_commands.specs.declared.options.Options.{Options}
use Rattle.tdb_openers.specs.Openers.{own_at}
use Rattle.tdb_openers.specs.Worlds.{state_in}
use Rattle.tdb_openers.specs.declared.opener.Opener.{Opener}
use Rattle.tdb_world.specs.Died.{IsReadAs}
use Rattle.tdb_world.specs.States.{IsSeen, IsAside, SideIs, IsStateOf, state_with, writes_all}
use Rattle.tdb_world.specs.States.IsStateOf.{of_whole, of_stale}
use Rattle.tdb_world.specs.Whole.{Whole, form_at, options_at, is_starting, HolderFits, AsideFits, WorldFits}
use Rattle.tdb_txn_owner.proofs.ReadAs.{restored_accepted, OpensIn}
use Rattle.tdb_world.proofs.Reopening.{aside_opens, state_reopens}
use Rattle.tdb_tool.proofs.Moves.{sight}

-- a map is that of an accepted image of at most so many bytes
pub record IsWithin (f : Form) (m : Map) (most : ℕ) : Type 0 where
  pub image : List ℕ
  pub hands : List HandPair
  pub accepted : AcceptWith f image hands
  pub map : m ≡ image_map f image
  pub short : length image ≤ most

-- an undo makes a file no longer
undone_short : (img : List ℕ) → Opens img → length (restored (form_of img) img) ≤ length img
undone_short img O = elim O.undo [
  | inl shut ↦ (let same : length (restored (form_of img) img) ≡ length img = ap length (read_as_it_is (form_of img) img shut) in omega (arith, same))
  | inr u ↦ (let within = (old_length (form_of img) img u).within in omega (arith, within, ap length (read_undone (form_of img) img u), undone_length (form_of img).order img (word (form_of img).order img area_head) (entries (form_of img) img)))
]

restored_short : (f : Form) (img : List ℕ) → form_of img ≡ f → Opens img → length (restored f img) ≤ length img
restored_short f img is O = subst (λ g. length (restored g img) ≤ length img) is (undone_short img O)

-- an opener of a world has no transaction
no_txn : (options : Options) (o : Option Opener) → (own_at options o).txn ≡ None
no_txn options None = refl
no_txn options (Some x) = refl

-- a prepared transaction refuses a First
first_refused : (f : Form) (x : Own) → is_prepared x.txn ≡ true → refusal f (OnWalk First) x ≡ Some IsPrepared
unfolding refusal
first_refused f x prepared = ap (λ b. first_that_applies ((b, IsPrepared) ∷ [])) prepared

prepared_refuses : (f : Form) (x : Own) (t : Txn) (n : ℕ) → x.txn ≡ Some t → t.prepared ≡ Some n → moves f (OnWalk First) x ≡ true → ⊥
prepared_refuses f x t n has is moving =
    false≢true (sym (ap (λ q. moves_by q (OnWalk First) x) (first_refused f x (ap is_prepared has ∙ ap is_some is))) ∙ moving)

-- The opener aside has no command, and a First wouldn't be refused: it is inside its transaction, which is no longer
-- than its file may get.
own_within : (f : Form) (o : Options) (k : Known) (stage : Stage) (x : Own) (h : History) (header : Header) (size : ℕ) (m : Map) → form_in header ≡ f → OwnIs f o k stage x → KnowsAt f stage h k
    → IsFit stage header o.limit size → stage_task stage ≡ None → moves f (OnWalk First) x ≡ true → IsWithin f (image_or x.txn m) o.limit
own_within f o k (At.Starting s) x h header size m form own at fit idle moving = absurd (cc)
own_within f o k (At.Committing c) x h header size m form own at fit idle moving = absurd (cc)
own_within f o k (At.Preparing p) x h header size m form own at fit idle moving = absurd (cc)
own_within f o k (At.Finishing s) x h header size m form own at fit idle moving = absurd (cc)
own_within f o k (At.Prepared left command) x h header size m form own at fit idle moving = absurd (prepared_refuses f x own.txn _ own.has.outer.has own.has.prepared_is moving)
own_within f o k (At.Open txn command) x h header size m form own at fit idle moving = subst (λ g. IsWithin g (image_or x.txn m) o.limit) (sym fit.0.header ∙ form) (record {
  image = _;
  hands = [];
  accepted = at.1.accepted;
  map = ap (λ t. image_or t m) own.txn;
  short = (let within = fit.0.within in omega (arith, within, length_filled (byte_over (txn_pages txn.own.txn) k.file) txn.own.txn.size));
})

not_starting : (b : Bool) (o : Option Task) → (if b then Some new_start else o) ≡ None → o ≡ None
not_starting false o e = e
not_starting true o e = absurd (cc)

within_more : (f : Form) (m : Map) (some most : ℕ) → some ≤ most → IsWithin f m some → IsWithin f m most
within_more f m some most more I = record { image = I.image; hands = I.hands; accepted = I.accepted; map = I.map; short = (let short = I.short in omega (arith, short, more)) }

module _ (w : Whole) (h : History) (size most : ℕ) (W : WorldFits w (seen h) size) (sized : length (seen h) ≤ most) (limited : w.openers.options.limit ≤ most) where
  abbrev f : Form
  f = form_at w

  -- the map of the file, as the others see it, or by what it opens to
  file_seen : (img : List ℕ) (m : Map) → IsSeen w h img → m ≡ image_map f img → IsWithin f m most
  file_seen img m S is = record { image = img; hands = _; accepted = S.bytes.accepted; map = is; short = (let same : length img ≡ length (seen h) = ap length S.image in omega (arith, same, sized)) }

  file_opens : (r : List ℕ) (m : Map) → OpensIn f r (seen h) → m ≡ image_map f (restored f (seen h)) → IsWithin f m most
  file_opens r m O is = record { image = restored f (seen h); hands = []; accepted = restored_accepted f r (seen h) O; map = is; short = omega (arith, sized, restored_short f (seen h) O.form O.reopens.opens.opens) }

  -- the opener isn't aside
  sees_file : (img : List ℕ) → image_or ((state_in w.openers img).own 0).txn (image_map f img) ≡ image_map f img
  sees_file img = ap (λ t. image_or t (image_map f img)) (no_txn w.openers.options (slice_get w.openers.openers 0))

  abbrev Sees : State → Type 0
  Sees state = IsWithin f (sight f 0 state) most

  -- it is aside, or another is
  module _ (holder : HolderState) (F : HolderFits w holder size) (img : List ℕ) (past : Past) (s : Side) (A : IsAside w holder h img past s) (read : image_map f img ≡ image_map f (restored f (seen h))) where
    beside_it : (r : Option Kind) → stage_records holder.stage ≡ r → (m : Map) → m ≡ image_map f img → IsWithin f m most
    beside_it None e m is = file_seen img m (A.others (ap writes_all e)) is
    beside_it (Some kind) e m is = file_opens img m (aside_opens w holder h img past s A (ap is_some e)) (is ∙ read)

    abbrev p : State
    p = state_in w.openers img

    by_place : (b : Bool) → (if b then s.task else p.task 0) ≡ None → moves f (OnWalk First) (if b then s.own else p.own 0) ≡ true → IsWithin f (image_or (if b then s.own else p.own 0).txn (image_map f img)) most
    by_place true idle moving =
        within_more f _ w.openers.options.limit most limited
        (own_within f (options_at w) A.known holder.stage s.own h w.openers.header size (image_map f img) refl A.side.own A.file.at F.fit (sym A.side.task ∙ idle) moving)
    by_place false idle moving = beside_it (stage_records holder.stage) refl (image_or (p.own 0).txn (image_map f img)) (sees_file img)

  whole_sees : (a : Option HolderState) (side : Option Side) (img : List ℕ) (past : Past) → AsideFits w a size → SideIs w a h img past side → IsReadAs f (seen h) (state_with w img past side) → (state_with w img past side).task 0 ≡ None
      → moves f (OnWalk First) ((state_with w img past side).own 0) ≡ true → Sees (state_with w img past side)
  whole_sees None None img past F I R idle moving = file_seen img _ I (sees_file img)
  whole_sees None (Some s) img past F I R idle moving = absurd I
  whole_sees (Some holder) None img past F I R idle moving = absurd I
  whole_sees (Some holder) (Some s) img past F I R idle moving = by_place holder F img past s I R.file (0 == s.here) (not_starting (is_starting w.starts 0) _ idle) moving

  -- what the first opener sees, which has no command, and which a First wouldn't refuse
  pub sees_within : (state : State) → IsStateOf w h state → state.task 0 ≡ None → moves f (OnWalk First) (state.own 0) ≡ true → Sees state
  sees_within state (of_whole S) idle moving =
      subst Sees (sym S.is)
      (whole_sees w.aside S.side S.image S.past W.aside S.is_side (subst (IsReadAs f (seen h)) S.is (state_reopens w h state (of_whole S))) (ap (λ x. x.task 0) (sym S.is) ∙ idle) (subst (λ x. moves f (OnWalk First) (x.own 0) ≡ true) S.is moving))
  sees_within state (of_stale S) idle moving = subst Sees (sym S.is) (record {
    image = S.image;
    hands = [];
    accepted = S.accepted;
    map = sees_file S.image;
    short = (let same : length S.image ≡ length (restored f (seen h)) = ap length S.undone in omega (arith, same, sized, restored_short f (seen h) S.form S.reopens.opens.opens));
  })
