-- What a turn of a cursor does to walks, its own and others', is of the law's kinds.
use Rattle.std.proofs.Common.{◌≡◌, ℕ, ◌+◌, ◌≤◌, List, [], ◌∷◌, Bool, true, false, cond, Option, Some, None, is_some, refl, sym, ◌∙◌, ap, subst, inl, inr, arith, nat_le, nat_lt, zero-le}
use Rattle.std.specs.Prelude.{◌&&◌, ◌==◌, if◌then◌else◌}
use Rattle.std.specs.FinMap.{get}
use Rattle.std.specs.Map.{lookup}
use Rattle.std.proofs.lemmas.Bool.{cases_Bool, cases_eq, eq-eqb, false≢true, le-ltb, le-leb, or_right}
use Rattle.tdb_words.specs.declared.record.TheConstants.{USED}
use Rattle.tdb_space.specs.Form.{Form, data_start}
use Rattle.tdb_space.specs.Record.{key_at, data_at, magic_of}
use Rattle.tdb_space.specs.Chain.{chain_of}
use Rattle.tdb_space.specs.Pairs.{home, pairs, same_key}
use Rattle.tdb_space.specs.Extents.{HandPair}
use Rattle.tdb_space.specs.Accepted.{AcceptWith}
use Rattle.tdb_space.proofs.Accepted.Laid.{accepted_filed}
use Rattle.tdb_space.proofs.Pairs.Maps.{map_home, pairs_used, pairs_other, same_key-eq}
use Rattle.tdb_locks.specs.declared.turn.Turn.{Turn}
use Rattle.tdb_law.specs.Commands.{WalkCommand}
use Rattle.tdb_law.specs.Commands.WalkCommand.{First, Next, EndWalk, Close}
use Rattle.tdb_law.specs.Commands.Command.{OnWalk}
use Rattle.tdb_law.specs.Openers.{Own, Spot, View, has, is_key}
use Rattle.tdb_law.specs.Refusals.{chain_byte}
use Rattle.tdb_law.specs.Rows.{walk_locks}
use Rattle.tdb_law.specs.Held.{locked_next, wanted, is_chain, move_turn}
use Rattle.tdb_law.specs.Outcomes.{walk_moves}
use Rattle.tdb_law.specs.World.{HasFewChains}
use Rattle.tdb_law.specs.Images.{image_map}
use Rattle.tdb_law.specs.Layout.{Place, cells, chains_in, live_in, ahead_of}
use Rattle.tdb_law.specs.Layout.Place.{before_chain, on_record}
use Rattle.tdb_law.proofs.HandsOut.{image_answers}
use Rattle.tdb_law.proofs.Maps.{is_key-refl}
use Rattle.tdb_walk.specs.declared.purging.DeadRecord.{DeadRecord}
use Rattle.tdb_walk.specs.Cursors.{At, StepMade, dead_of}
use Rattle.tdb_walk.specs.Cursors.StepMade.{keeps, purges, waits, starves}
use Rattle.tdb_walk.specs.InLaw.{OthersStay}
use Rattle.tdb_walk.proofs.Ahead.{none_some}
use Rattle.tdb_walk.proofs.Explicit.{one_off}
use Rattle.tdb_walk.proofs.Holding.{purge_locks}
use Rattle.tdb_walk.proofs.Wanting.{bit, wanted_is}
use Rattle.tdb_space.proofs.Pairs.Maps.{home_below}

-- the keys that are further on stay
pub ahead_same : (f : Form) (a b : List ℕ) (hands : List HandPair) (at later : At) (did : Turn) (place : Place) → StepMade f a b hands at later did → ((d : DeadRecord) → dead_of at.place at.stage ≡ Some d → place ≡ on_record d.chain d.off → ⊥) → (k : List ℕ)
    → ahead_of f (chains_in f b) place k ≡ ahead_of f (chains_in f a) place k
ahead_same f a b hands at later did place (keeps none same) apart k = ap (λ img. ahead_of f (chains_in f img) place k) same
ahead_same f a b hands at later did place (purges d is over never gone) apart k = gone.ahead place (apart d is) k
ahead_same f a b hands at later did place (waits other byte is stays same) apart k = ap (λ img. ahead_of f (chains_in f img) place k) same
ahead_same f a b hands at later did place (starves is same) apart k = ap (λ img. ahead_of f (chains_in f img) place k) same

pub others_stay : OthersStay
others_stay f a b hands at later did place c n x turn mine made apart = record {
  inside = refl;
  reached = refl;
  fewer = λ k e. inl (sym (ahead_same f a b hands at later did place made apart k) ∙ e);
  kept = λ k e. inl (ahead_same f a b hands at later did place made apart k ∙ e);
}

-- each key of the map has its record further on than before the first chain
found_live : (f : Form) (img : List ℕ) (xs : List ℕ) (k v : List ℕ) → lookup (same_key k) (pairs f.order img xs) ≡ Some v → live_in (cells f img xs) k ≡ true
found_live f img [] k v e = absurd (none_some e)
found_live f img (x ∷ xs) k v e = elim (cases_eq (magic_of f.order img x) USED) [
  | inl used ↦
      elim (cases_Bool (same_key k (key_at f.order img x))) [
        | inl same ↦
            let is : is_key (key_at f.order img x) k ≡ true = subst (λ q. is_key q k ≡ true) (same_key-eq k (key_at f.order img x) same) (is_key-refl k) in
            rw (eq-eqb (magic_of f.order img x) USED used, is) refl
        | inr other ↦
            let rest : lookup (same_key k) (pairs f.order img xs) ≡ Some v =
            sym (ap (λ z. cond z (Some (data_at f.order img x)) (lookup (same_key k) (pairs f.order img xs))) other) ∙ sym (ap (lookup (same_key k)) (pairs_used f.order img x xs used)) ∙ e in
            or_right ((magic_of f.order img x == USED) && is_key (key_at f.order img x) k) (live_in (cells f img xs) k) (found_live f img xs k v rest)
      ]
  | inr other ↦
      or_right ((magic_of f.order img x == USED) && is_key (key_at f.order img x) k) (live_in (cells f img xs) k) (found_live f img xs k v (sym (ap (lookup (same_key k)) (pairs_other f.order img x xs other)) ∙ e))
]

some_of : {T : Type 0} (o : Option T) → is_some o ≡ true → (v : T) × (o ≡ Some v)
some_of None e = absurd (false≢true e)
some_of (Some v) e = (v, refl)

pub mapped_ahead : (f : Form) (img : List ℕ) (hands : List HandPair) → AcceptWith f img hands → (k : List ℕ) → has (image_map f img) k ≡ true → ahead_of f (chains_in f img) (before_chain 0) k ≡ true
mapped_ahead f img hands A k e =
    let found = some_of (get (image_map f img) k) e in
    rw (le-leb 0 (home f k) zero-le) (found_live f img (chain_of f img (home f k)) k found.0 (sym (image_answers f img k ∙ map_home f img k (accepted_filed f img hands A)) ∙ found.1))

-- no turn of a cursor wants a record's byte
bit_none : (m c z : Bool) → c ≡ false → bit (m && (c && z)) ≡ 0
bit_none true c z e = ap (λ u. bit (u && z)) e
bit_none false c z e = refl

and_no : (c z : Bool) → z ≡ false → (c && z) ≡ false
and_no true z e = e
and_no false z e = refl

locks_low : (f : Form) → HasFewChains f → (w : WalkCommand) (cursor : Option (List ℕ)) (purging : Bool) (n b : ℕ) → data_start f ≤ b → locked_next (walk_locks f w cursor purging) n b ≡ 0
locks_low f few w None purging n b high = refl
locks_low f few First (Some key) false n b high = refl
locks_low f few EndWalk (Some key) false n b high = refl
locks_low f few Close (Some key) false n b high = refl
locks_low f few Next (Some key) false n b high =
    let low = home_below f key few.some in
    let off = one_off (chain_byte f key) 1 b (λ e. absurd (omega (arith, e, high, low))) in
    (let none : ◌≡◌ {A = ℕ} (if (0 == n) && (nat_le (chain_byte f key) b && nat_lt b (chain_byte f key + 1)) then 1 else 0) 0 = both (0 == n) (nat_le (chain_byte f key) b && nat_lt b (chain_byte f key + 1)) 1 off in omega (arith, none))
  where
    both : (p c : Bool) (s : ℕ) → (if c then s else 0) ≡ 0 → (if p && c then s else 0) ≡ 0
    both true c s e = e
    both false c s e = refl
locks_low f few w (Some key) true n b high =
    let low = home_below f key few.some in
    let off = one_off (chain_byte f key) 2 b (λ e. absurd (omega (arith, e, high, low))) in
    let off_free = one_off 164 2 b (λ e. absurd (omega (arith, e, high))) in
    let none : ◌≡◌ {A = ℕ} (if (0 == n) && (nat_le (chain_byte f key) b && nat_lt b (chain_byte f key + 1)) then 2 else 0) 0 = both (0 == n) (nat_le (chain_byte f key) b && nat_lt b (chain_byte f key + 1)) 2 off in
    let none_free : ◌≡◌ {A = ℕ} (if (1 == n) && (nat_le 164 b && nat_lt b 165) then 2 else 0) 0 = both (1 == n) (nat_le 164 b && nat_lt b 165) 2 off_free in
    ap (λ ls. locked_next ls n b) (purge_locks f w key) ∙ omega (arith, none, none_free)
  where
    both : (p c : Bool) (s : ℕ) → (if c then s else 0) ≡ 0 → (if p && c then s else 0) ≡ 0
    both true c s e = e
    both false c s e = refl

pub want_high : (f : Form) → HasFewChains f → (w : WalkCommand) (x : Own) (z : Spot) (v : View) (n b : ℕ) → x.txn ≡ None → data_start f ≤ b → wanted f (OnWalk w) x z v n b ≡ 0
want_high f few w x z v n b outside high =
    let is = wanted_is f w x z v n b outside in
    let row : cond z.gone 0 (locked_next (walk_locks f w x.cursor z.purging) n b) ≡ 0 = ap (λ s. cond z.gone 0 s) (locks_low f few w x.cursor z.purging n b high) ∙ either z.gone in
    let way : bit ((walk_moves w x && cond z.gone true (n == move_turn w z.purging x.cursor)) && (is_chain f b && v.way b)) ≡ 0 =
    bit_none (walk_moves w x && cond z.gone true (n == move_turn w z.purging x.cursor)) (is_chain f b) (v.way b) (and_no (nat_le 168 b) (nat_lt b (data_start f)) (le-ltb b (data_start f) high)) in
    omega (arith, is, row, way)
  where
    either : (c : Bool) → ◌≡◌ {A = ℕ} (cond c 0 0) 0
    either true = refl
    either false = refl
