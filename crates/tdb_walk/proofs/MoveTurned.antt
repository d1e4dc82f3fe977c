-- What a turn of a cursor that moves does is of the law's kinds.
use Rattle.std.proofs.Common.{◌≡◌, ◌≢◌, ℕ, ◌+◌, ◌*◌, ◌<◌, ◌≤◌, max, List, [], ◌∷◌, Bool, true, false, cond, Option, Some, None, refl, sym, ◌∙◌, ap, subst, inl, inr, ◌⊎◌, arith, length, zero, suc}
use Rattle.std.specs.Prelude.{◌&&◌, ◌/◌}
use Rattle.std.specs.FinMap.{get}
use Rattle.std.specs.Map.{keys_of, lookup}
use Rattle.std.specs.List.{IsDistinct}
use Rattle.std.proofs.lemmas.Bool.{cases_Bool, cases_eq, cases_lt, eq-eqb, le-leb, lt-ltb, false≢true}
use Rattle.std.proofs.lemmas.Map.Keys.{IsDistinct-head, IsDistinct-tail}
use Rattle.tdb_words.specs.declared.record.TheConstants.{USED}
use Rattle.tdb_words.specs.declared.word.Order.{Order}
use Rattle.tdb_words.specs.Header.{sequence_at}
use Rattle.tdb_words.specs.Word.{word}
use Rattle.tdb_space.specs.Form.{Form, data_start, chain_head}
use Rattle.tdb_space.specs.Record.{key_at, data_at, magic_of}
use Rattle.tdb_space.specs.Chain.{chain_of, offsets, Member}
use Rattle.tdb_space.specs.Pairs.{home, pairs, same_key}
use Rattle.tdb_space.specs.Extents.{HandPair}
use Rattle.tdb_space.specs.Accepted.{AcceptWith}
use Rattle.tdb_space.proofs.Accepted.Laid.{accepted_filed}
use Rattle.tdb_space.proofs.Pairs.Maps.{lookup_met, lookup_passed, map_home, pairs_used, pairs_other, same_key-refl}
use Rattle.tdb_space.proofs.Accepted.Removes.{home_of_member, key_among}
use Rattle.tdb_space.proofs.Chain.Walks.{member_cases}
use Rattle.tdb_locks.specs.HeldLocks.{HeldLocks}
use Rattle.tdb_locks.specs.LockTable.{held, Conflicts}
use Rattle.tdb_locks.specs.declared.kind.Kind.{Kind}
use Rattle.tdb_locks.specs.declared.kind.Kind.TheVariants.{Read, Write}
use Rattle.tdb_locks.specs.declared.piece.Piece.{Piece}
use Rattle.tdb_locks.specs.declared.turn.Reply.{Reply}
use Rattle.tdb_locks.specs.declared.turn.Turn.{Turn}
use Rattle.tdb_locks.proofs.Strengths.{strength, strength-le, strength-free, kinds_conflict-strength, strength-kinds_conflict}
use Rattle.tdb_law.specs.Commands.{WalkCommand, Turn as LawTurn, Reply as LawReply}
use Rattle.tdb_law.specs.Commands.Command.{OnWalk}
use Rattle.tdb_law.specs.Openers.{Own, Spot, View, nowhere}
use Rattle.tdb_law.specs.Refusals.{chain_byte}
use Rattle.tdb_law.specs.Outcomes.{walk_moves}
use Rattle.tdb_law.specs.Held.{explicit_held, wanted, decided, is_chain, moves_at}
use Rattle.tdb_law.specs.World.{HasFewChains}
use Rattle.tdb_law.specs.Effects.{IsFree}
use Rattle.tdb_law.specs.Effects.Effect.{effect_waits, effect_shows}
use Rattle.tdb_law.specs.Effects.Stays.{stands_nowhere, stands_on}
use Rattle.tdb_law.specs.Effects.Finds.{finds_pair, finds_end}
use Rattle.tdb_law.specs.Images.{image_map}
use Rattle.tdb_law.proofs.HandsOut.{image_answers}
use Rattle.tdb_walk.specs.declared.live.Live.{Live}
use Rattle.tdb_walk.specs.declared.standing.Standing.{Standing}
use Rattle.tdb_walk.specs.declared.standing.Standing.TheVariants.{Before, On, Past}
use Rattle.tdb_walk.specs.declared.way.Way.TheVariants as Way
use Rattle.tdb_walk.specs.NextLive.{IsNext, place_of}
use Rattle.tdb_walk.specs.Way.{IsWay, CanRead, IsFilled, lock_byte, next_chain}
use Rattle.tdb_walk.specs.ByteLocks.{IsKeptFrom, reads_all}
use Rattle.tdb_walk.specs.Cursors.{At, MoveLed, rested}
use Rattle.tdb_walk.specs.Cursors.Came.{shown, barred, wants}
use Rattle.tdb_walk.specs.Cursors.MoveLed.{comes, stops, ends, gives_up}
use Rattle.tdb_walk.specs.InLaw.{HoldsExplicit, IsTurn, IsOnWay, is_close, spot_in, spot_next, own_next, strengths}
use Rattle.tdb_walk.proofs.Ahead.{none_some}
use Rattle.tdb_walk.proofs.Arrived.{met_member}
use Rattle.tdb_walk.proofs.Coming.{met_used, met_filed}
use Rattle.tdb_walk.proofs.Decided.{whole_in}
use Rattle.tdb_walk.proofs.Explicit.{covers_reading}
use Rattle.tdb_walk.proofs.Wanting.{bit, on_way, moves_are}
use Rattle.tdb_walk.proofs.Rows.{unchanged, number_is, own_is, moves_close, walked_moving}
use Rattle.tdb_walk.proofs.CursorActs.{CursorActs}
use Rattle.tdb_walk.proofs.EndTurned.{starves_turned}

-- the map has the pair of each used record of a chain
lookup_member : (o : Order) (img xs : List ℕ) (y : ℕ) → IsDistinct same_key (keys_of (pairs o img xs)) → Member y xs → magic_of o img y ≡ USED → lookup (same_key (key_at o img y)) (pairs o img xs) ≡ Some (data_at o img y)
lookup_member o img [] y distinct m used = absurd (false≢true m)
lookup_member o img (x ∷ xs) y distinct m used =
    elim (cases_eq x y) [
      | inl e ↦ lookup_met o img (key_at o img y) x xs (ap (magic_of o img) e ∙ used) (ap (key_at o img) e) ∙ ap (λ z. Some (data_at o img z)) e
      | inr ne ↦
          let there : Member y xs = elim (member_cases y x xs m) [ inl here ↦ absurd (ne (sym here)) | inr rest ↦ rest ] in
          elim (cases_eq (magic_of o img x) USED) [
            | inl e ↦
                let spread : IsDistinct same_key (key_at o img x ∷ keys_of (pairs o img xs)) = subst (λ ps. IsDistinct same_key (keys_of ps)) (pairs_used o img x xs e) distinct in
                let apart : same_key (key_at o img x) (key_at o img y) ≡ false = key_among o img xs (λ q. same_key (key_at o img x) q ≡ false) y (IsDistinct-head same_key (key_at o img x) (keys_of (pairs o img xs)) spread) there used in
                lookup_passed o img (key_at o img y) x xs (λ u same. false≢true (sym apart ∙ subst (λ q. same_key (key_at o img x) q ≡ true) same (same_key-refl (key_at o img x))))
                ∙ lookup_member o img xs y (IsDistinct-tail same_key (key_at o img x) (keys_of (pairs o img xs)) spread) there used
            | inr other ↦
                lookup_passed o img (key_at o img y) x xs (λ u same. absurd (other u)) ∙ lookup_member o img xs y (subst (λ ps. IsDistinct same_key (keys_of ps)) (pairs_other o img x xs other) distinct) there used
          ]
    ]

pub mapped : (f : Form) (img : List ℕ) (hands : List HandPair) (chain off : ℕ) → AcceptWith f img hands → chain < f.chains → Member off (chain_of f img chain) → magic_of f.order img off ≡ USED → get (image_map f img) (key_at f.order img off) ≡ Some (data_at f.order img off)
mapped f img hands chain off A low m used =
    let filed = home_of_member f img chain (chain_of f img chain) off (A.filed chain low) m used in
    image_answers f img (key_at f.order img off) ∙ map_home f img (key_at f.order img off) (accepted_filed f img hands A)
    ∙ ap (λ j. lookup (same_key (key_at f.order img off)) (pairs f.order img (chain_of f img j))) filed ∙ lookup_member f.order img (chain_of f img chain) off (A.keys chain low) m used

some_strength : (o : Option Kind) → o ≢ None → 1 ≤ strength o
some_strength None some = absurd (some refl)
some_strength (Some Read) some = omega arith
some_strength (Some Write) some = omega arith

chain_is : (f : Form) (j : ℕ) → j < f.chains → is_chain f (lock_byte j) ≡ true
chain_is f j low = rw (le-leb 168 (lock_byte j) (omega arith), lt-ltb (lock_byte j) (data_start f) (omega (arith, low))) refl

way_true : (c z : Bool) → c ≡ true → z ≡ true → bit (c && z) ≡ 1
way_true c z e d = λ i. bit (e i && d i)

way_false : (c z : Bool) → z ≡ false → bit (c && z) ≡ 0
way_false true z e = ap (λ u. bit u) e
way_false false z e = refl

way_most : (f : Form) (v : View) (z : ℕ) → on_way f v z ≤ 1
way_most f v z = either (is_chain f z && v.way z)
  where
    either : (c : Bool) → bit c ≤ 1
    either true = omega arith
    either false = omega arith

-- a chain with a record has a head
member_filled : (o : Order) (img : List ℕ) (n at y : ℕ) → at ≡ 0 → Member y (offsets o img n at) → ⊥
member_filled o img zero at y e m = false≢true m
member_filled o img (suc n) at y e m = false≢true (subst (λ z. Member y (cond z [] (at ∷ offsets o img n (word o img at)))) (eq-eqb at 0 e) m)

module _ (f : Form) (few : HasFewChains f) (own : HeldLocks) (x : Own) (outside : x.txn ≡ None) (E : HoldsExplicit own x) (w : WalkCommand) (n who : ℕ) (ps : List Piece) (a b : List ℕ) (hands : List HandPair) (v : View) (spot : Spot) (from : Standing)
    (A : AcceptWith f a hands) (same_map : image_map f b ≡ image_map f a) (same_number : word f.order b sequence_at ≡ word f.order a sequence_at)
    (least : (z : ℕ) → explicit_held f x z ≤ strengths ps who z)
    (apart : (p z : ℕ) → p ≢ who → strengths ps who z + strengths ps p z ≤ 2)
    (wide : (p z : ℕ) (k : List ℕ) → p ≢ who → data_start f ≤ z → 2 ≤ strengths ps p z → 2 ≤ strengths ps p (chain_byte f k))
    (want_is : (z : ℕ) → wanted f (OnWalk w) x (decided spot v n) v n z ≡ on_way f v z)
    (way : (j : ℕ) → IsOnWay f a from j → v.way (lock_byte j) ≡ true)
    (ways : (z : ℕ) → v.way z ≡ true → (j : ℕ) × (z ≡ lock_byte j) × IsOnWay f a from j)
    (moving : walk_moves w x ≡ true)
    (own_chain : (live : Live) → live.chain < next_chain f from → IsNext f a (place_of from) (Some live) → 1 ≤ strengths ps who (lock_byte live.chain)) where
  abbrev ActsTo : At → LawTurn → Type 0
  ActsTo later turn =
      CursorActs f x (own_next f w n x (image_map f a) turn) w n who spot (spot_next turn w later) v (strengths ps) (image_map f a) (image_map f b) (word f.order a sequence_at) (word f.order b sequence_at) turn

  abbrev want : ℕ → ℕ
  want z = wanted f (OnWalk w) x (decided spot v n) v n z

  -- a chain that can be read leaves no room for a writer
  read_room : (j : ℕ) → j < f.chains → CanRead ps (who + 1) own j → (p : ℕ) → p ≢ who → strengths ps p (lock_byte j) ≤ 1
  read_room j low (inl covered) p differs = let one_there = covers_reading f few own x E j low covered in let le = least (lock_byte j) in let room = apart p (lock_byte j) differs in omega (arith, one_there, le, room)
  read_room j low (inr (inl holds)) p differs = let one_there = some_strength (held ps (who + 1) (lock_byte j)) holds in let room = apart p (lock_byte j) differs in omega (arith, one_there, room)
  read_room j low (inr (inr free)) p differs =
      let room = strength-free ps (who + 1) (lock_byte j) (lock_byte j + 1) Read free (p + 1) (lock_byte j) (λ e. differs (omega (arith, e))) (omega arith) (omega arith) in omega (arith, room)

  -- so a move along chains that can be read is free
  free_way : ((j : ℕ) → IsOnWay f a from j → CanRead ps (who + 1) own j) → IsFree (strengths ps) who want
  free_way can = record { free = λ p z differs. room p z differs }
    where
      room : (p z : ℕ) → p ≢ who → want z + strengths ps p z ≤ 2
      room p z differs = elim (cases_Bool (v.way z)) [
        | inl e ↦
            let (j, here, on) = ways z e in
            let less = read_room j on.below (can j on) p differs in
            let same : strengths ps p z ≡ strengths ps p (lock_byte j) = ap (strengths ps p) here in
            let is = want_is z in
            let most = way_most f v z in
            omega (arith, less, same, is, most)
        | inr e ↦
            let is = want_is z in
            let none = way_false (is_chain f z) (v.way z) e in
            let most = strength-le (held ps (p + 1) z) in
            omega (arith, is, none, most)
      ]

  not_close : is_close w ≡ false
  not_close = moves_close w x moving

  -- what the opener is, and what only the world knows of it, after a reply
  spot_is : (place : Standing) (r : LawReply) → spot_next (LawTurn.Ends r) w (rested place) ≡ spot_in (rested place) false
  spot_is place r = ap (λ c. cond c nowhere (spot_in (rested place) false)) not_close

  -- the record that is come to
  module _ (live : Live) (met : IsWay f a ps (who + 1) own (place_of from) (next_chain f from) (Way.Met live)) where
    abbrev key : List ℕ
    key = key_at f.order a live.off

    abbrev value : List ℕ
    value = data_at f.order a live.off

    there : (live.chain < f.chains) × Member live.off (chain_of f a live.chain)
    there = met_member f a (place_of from) live met.0

    used : magic_of f.order a live.off ≡ USED
    used = met_used f a (place_of from) live met.0

    filed : home f key ≡ live.chain
    filed = met_filed f a hands (place_of from) live A met.0

    pub above : data_start f ≤ live.off
    above = (whole_in f a hands A live.chain live.off there.0 there.1).above

    filled : IsFilled f a live.chain
    filled e = member_filled f.order a (length a / 4) (word f.order a (chain_head live.chain)) live.off e there.1

    byte_is : chain_byte f key ≡ lock_byte live.chain
    byte_is = ap (λ c. 168 + 4 * c) filed

    can_way : (j : ℕ) → IsOnWay f a from j → CanRead ps (who + 1) own j
    can_way j on = met.1 j on.entered (low (cases_lt live.chain j)) on.filled
      where
        low : (live.chain < j) ⊎ (j ≤ live.chain) → j < live.chain + 1
        low (inl late) = absurd (none_some (sym (on.passed live.chain late) ∙ met.0.1.first))
        low (inr early) = omega (arith, early)

    room_there : (p : ℕ) → p ≢ who → strengths ps p (lock_byte live.chain) ≤ 1
    room_there p differs = elim (cases_lt live.chain (next_chain f from)) [
      | inl behind ↦ let mine = own_chain live behind met.0 in let room = apart p (lock_byte live.chain) differs in omega (arith, mine, room)
      | inr entered ↦ read_room live.chain there.0 (met.1 live.chain entered (omega arith) filled) p differs
    ]

    read_there : 1 ≤ max (strengths ps who (chain_byte f key)) (want (chain_byte f key))
    read_there = subst (λ z. 1 ≤ max (strengths ps who z) (want z)) (sym byte_is) (elim (cases_lt live.chain (next_chain f from)) [
      | inl behind ↦ let mine = own_chain live behind met.0 in omega (arith, mine)
      | inr entered ↦
          let on : IsOnWay f a from live.chain = record { entered = entered; below = there.0; filled = filled; passed = met.0.1.passed } in
          let is = want_is (lock_byte live.chain) in
          let wants = way_true (is_chain f (lock_byte live.chain)) (v.way (lock_byte live.chain)) (chain_is f live.chain there.0) (way live.chain on) in
          omega (arith, is, wants)
    ])

    -- nobody holds its byte for writing: who did would hold its chain so
    pub never_barred : (o at : ℕ) → IsKeptFrom (reads_all own) ps (who + 1) live.off Read (o + 1) at → ⊥
    never_barred o at kept =
        let low = kept.conflict.conflict.from_start in
        let high = kept.conflict.conflict.before_end in
        let differs : o ≢ who = λ e. kept.conflict.conflict.other_owner (omega (arith, e)) in
        let is : strengths ps o at ≡ strength (Some kept.kind) = ap strength kept.conflict.conflict.holds in
        let both = kinds_conflict-strength kept.kind Read kept.conflict.conflict.writes in
        let two = wide o at key differs (omega (arith, above, low)) (omega (arith, is, both)) in
        let same : strengths ps o (chain_byte f key) ≡ strengths ps o (lock_byte live.chain) = ap (strengths ps o) byte_is in
        let room = room_there o differs in
        absurd (omega (arith, two, same, room))

    abbrev told_pair : LawTurn
    told_pair = LawTurn.Ends (LawReply.Pair key value)

    own_shown : own_next f w n x (image_map f a) told_pair ≡ record x { cursor = Some key }
    own_shown = own_is f w x outside n (LawReply.Pair key value) (image_map f a) ∙ walked_moving w x (LawReply.Pair key value) moving

    pub comes_turned : ActsTo (rested (On live.chain live.off)) told_pair
    comes_turned = record {
      leaves_spot = (
        stands_on key value live.off refl outside own_shown (ap (λ (s : Spot). s.stands) (spot_is (On live.chain live.off) (LawReply.Pair key value))) above read_there,
        ap (λ (s : Spot). s.gone) (spot_is (On live.chain live.off) (LawReply.Pair key value)),
      );
      effect = effect_shows (LawReply.Pair key value) refl (free_way can_way) (moves_are f w x outside ∙ moving) (finds_pair key value refl (mapped f a hands live.chain live.off A there.0 there.1 used) read_there) same_map refl;
      number = same_number ∙ sym (number_is f w x outside n told_pair (word f.order a sequence_at) 0);
    }

  -- no live record is left
  pub ends_turned : IsWay f a ps (who + 1) own (place_of from) (next_chain f from) Way.End → ActsTo (rested Past) (LawTurn.Ends LawReply.End)
  ends_turned met = record {
    leaves_spot = (stands_nowhere (ap (λ (s : Spot). s.stands) (spot_is Past LawReply.End)), ap (λ (s : Spot). s.gone) (spot_is Past LawReply.End));
    effect = effect_shows LawReply.End refl (free_way (λ j on. met.1 j on.entered on.below on.filled)) (moves_are f w x outside ∙ moving) (finds_end refl) same_map refl;
    number = same_number ∙ sym (number_is f w x outside n (LawTurn.Ends LawReply.End) (word f.order a sequence_at) 0);
  }

  -- another opener holds a chain on the way for writing
  module _ (moves_now : moves_at f (OnWalk w) x (decided spot v n) n ≡ true) (chain o byte : ℕ) (W : IsWay f a ps (who + 1) own (place_of from) (next_chain f from) (Way.Blocked chain (o + 1) byte)) where
    at_chain : byte ≡ lock_byte chain
    at_chain = let low = W.off.conflict.conflict.from_start in let high = W.off.conflict.conflict.before_end in omega (arith, low, high)

    differs_here : o ≢ who
    differs_here e = W.off.conflict.conflict.other_owner (omega (arith, e))

    wanted_here : want (lock_byte chain) ≡ 1
    wanted_here = want_is (lock_byte chain) ∙ way_true (is_chain f (lock_byte chain)) (v.way (lock_byte chain)) (chain_is f chain W.below) (way chain (record { entered = W.above; below = W.below; filled = W.filled; passed = W.passed }))

    sooner : (p z : ℕ) (k : Option Kind) → held ps (p + 1) z ≡ k → p ≢ who → 2 < want z + strengths ps p z → (byte < z) ⊎ ((byte ≡ z) × (o ≤ p))
    sooner p z k holds differs more = elim (cases_Bool (v.way z)) [
      | inr e ↦
          let is = want_is z in
          let none = way_false (is_chain f z) (v.way z) e in
          let most = strength-le (held ps (p + 1) z) in
          absurd (omega (arith, is, none, most, more))
      | inl e ↦ let (j, here, on) = ways z e in elim (cases_lt j chain) [
        | inl early ↦
            let less = read_room j on.below (W.free j on.entered early on.filled) p differs in
            let same : strengths ps p z ≡ strengths ps p (lock_byte j) = ap (strengths ps p) here in
            let is = want_is z in
            let most = way_most f v z in
            absurd (omega (arith, less, same, is, most, more))
        | inr late ↦ elim (cases_eq j chain) [
          | inr beyond ↦ inl (omega (arith, late, beyond, here, at_chain))
          | inl same ↦ here_first k holds (here ∙ ap lock_byte same)
        ]
      ]
    ]
      where
        here_first : (k : Option Kind) → held ps (p + 1) z ≡ k → z ≡ lock_byte chain → (byte < z) ⊎ ((byte ≡ z) × (o ≤ p))
        here_first None holds here =
            let none : strengths ps p z ≡ 0 = ap strength holds in
            let is = want_is z in
            let most = way_most f v z in
            absurd (omega (arith, none, is, most, more))
        here_first (Some kind) holds here =
            let there : strengths ps p z ≡ strength (Some kind) = ap strength holds in
            let is = want_is z in
            let most = way_most f v z in
            let clash : Conflicts ps (who + 1) (lock_byte chain) (lock_byte chain + 1) Read (p + 1) z kind =
            record { other_owner = λ e. differs (omega (arith, e)); from_start = omega (arith, here); before_end = omega (arith, here); holds = holds; writes = strength-kinds_conflict kind Read (omega (arith, there, is, most, more)) } in
            elim (W.off.conflict.least (p + 1) z kind clash) [ inl less ↦ inl less | inr first ↦ inr (first.0, let le = first.1 in omega (arith, le)) ]

    pub stops_turned : ActsTo (rested (Before chain)) (LawTurn.Blocked o byte)
    stops_turned = record {
      leaves_spot = inr (moves_now, refl, refl);
      effect = effect_waits o byte refl
          (record {
            other = differs_here;
            conflict = (let is : strengths ps o byte ≡ strength (Some W.off.kind) = ap strength W.off.conflict.conflict.holds in let both = kinds_conflict-strength W.off.kind Read W.off.conflict.conflict.writes in
                let wants : want byte ≡ 1 = ap want at_chain ∙ wanted_here in omega (arith, is, both, wants));
            least = λ p z differs more. sooner p z (held ps (p + 1) z) refl differs more;
          })
          (unchanged f w x outside n) same_map refl;
      number = same_number ∙ sym (number_is f w x outside n (LawTurn.Blocked o byte) (word f.order a sequence_at) 0);
    }

  -- a move
  module _ (at : At) (moves_now : moves_at f (OnWalk w) x (decided spot v n) n ≡ true) where
    carried : (later later2 : At) (turn turn2 : LawTurn) → later ≡ later2 → turn ≡ turn2 → ActsTo later2 turn2 → ActsTo later turn
    carried later later2 turn turn2 is says done = subst (λ l. ActsTo l turn) (sym is) (subst (λ t. ActsTo later2 t) (sym says) done)

    no_memory : (later : At) (did : Turn) (turn : LawTurn) → did ≡ Turn.Done Reply.Memory → later ≡ rested Past → IsTurn did turn → ActsTo later turn
    no_memory later did turn says ended told =
        let (r, is, same) = subst (λ d. IsTurn d turn) says told in
        carried later (rested Past) turn (LawTurn.Ends LawReply.Memory) ended (same ∙ ap LawTurn.Ends is) (starves_turned f x outside n who ps a b v spot same_map same_number w moving)

    pub by_move : (later : At) (did : Turn) (turn : LawTurn) → MoveLed f a ps (who + 1) own from at later did → IsTurn did turn → ActsTo later turn
    by_move later did turn (comes live way_met (shown says stands can)) told =
        let (r, is, same) = subst (λ d. IsTurn d turn) says told in
        carried later (rested (On live.chain live.off)) turn (LawTurn.Ends (LawReply.Pair (key_at f.order a live.off) (data_at f.order a live.off))) stands (same ∙ ap LawTurn.Ends is) (comes_turned live way_met)
    by_move later did turn (comes live way_met (barred other byte says stays bar)) told =
        let (o, is, same) = subst (λ d. IsTurn d turn) says told in
        absurd (never_barred live way_met o byte (subst (λ q. IsKeptFrom (reads_all own) ps (who + 1) live.off Read q byte) is bar))
    by_move later did turn (comes live way_met (wants says ended)) told = no_memory later did turn says ended told
    by_move later did turn (stops chain other byte way_stops says stands) told =
        let (o, is, same) = subst (λ d. IsTurn d turn) says told in
        carried later (rested (Before chain)) turn (LawTurn.Blocked o byte) stands same
        (stops_turned moves_now chain o byte (subst (λ q. IsWay f a ps (who + 1) own (place_of from) (next_chain f from) (Way.Blocked chain q byte)) is way_stops))
    by_move later did turn (ends way_ends says ended) told =
        let (r, is, same) = subst (λ d. IsTurn d turn) says told in
        carried later (rested Past) turn (LawTurn.Ends LawReply.End) ended (same ∙ ap LawTurn.Ends is) (ends_turned way_ends)
    by_move later did turn (gives_up says ended) told = no_memory later did turn says ended told
