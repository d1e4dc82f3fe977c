-- What the changes of an image leave of walks through the chain of a key.
use Rattle.std.proofs.Common.{◌≡◌, ℕ, ◌+◌, ◌<◌, ◌≤◌, ◌⊎◌, List, [], ◌∷◌, length, Bool, true, false, ◌==◌, Option, Some, None, refl, sym, ◌∙◌, ap, subst, inl, inr, arith}
use Rattle.std.specs.Prelude.{◌&&◌, slice_index, take, drop}
use Rattle.std.proofs.Math.Bool.{and-false}
use Rattle.std.proofs.lemmas.Bool.{cases_eq, cases_lt, eq-eqb, ne_eqb, false_from_ne_true}
use Rattle.tdb_words.specs.declared.record.TheConstants.{USED}
use Rattle.tdb_words.specs.declared.record.Rec.{Rec}
use Rattle.tdb_words.specs.Word.{word}
use Rattle.tdb_words.proofs.Words.{word_agrees}
use Rattle.tdb_space.specs.Form.{Form, chain_head}
use Rattle.tdb_space.specs.Record.{IsChained, Whole, Fits, key_at, magic_of, rec_len_of, key_len_of}
use Rattle.tdb_space.specs.Chain.{Member, Leads, chain_of, free_of, without}
use Rattle.tdb_space.specs.Pairs.{home}
use Rattle.tdb_space.specs.Extents.{Extent, HandPair, once, times, extents, extent_at, hand_extents}
use Rattle.tdb_space.specs.Accepted.{AcceptWith}
use Rattle.tdb_space.specs.Stays.{OnlyIn, ChainStays, ChainsStay}
use Rattle.tdb_space.proofs.Extents.Counts.{once_in, once_out, times_all, times_member}
use Rattle.tdb_space.proofs.Exchange.Kept.{Body, part_kept}
use Rattle.tdb_space.proofs.Chain.Walks.{member_other, linked_whole}
use Rattle.tdb_space.proofs.Chain.Members.{member_held, two_members, led_from}
use Rattle.tdb_space.proofs.Accepted.Removes.{filed_member}
use Rattle.tdb_space.proofs.Pairs.Maps.{home_below}
use Rattle.tdb_free.proofs.TakenAs.{member_without}
use Rattle.tdb_chain.specs.declared.place.Place.{Place}
use Rattle.tdb_chain.specs.Place.{HoldsKey, IsFound}
use Rattle.tdb_chain.specs.Changed.{KeySet, OldOrWord, hand_at, hands_back, without_place, word_before}
use Rattle.tdb_chain.proofs.PlaceStays.{place_member}
use Rattle.tdb_chain.proofs.Unlinked.{place_magic, place_len, word_only}
use Rattle.tdb_law.specs.Openers.{is_key}
use Rattle.tdb_law.specs.Layout.{Cell, Keeps, cells, chains_in, live_in}
use Rattle.tdb_law.proofs.Tests.{never_true, and_both}
use Rattle.tdb_steps.specs.declared.stage.Stage.{Stage}
use Rattle.tdb_steps.specs.declared.stage.Next.{Next}
use Rattle.tdb_steps.specs.Stages.{is_changed, is_changed_after}
use Rattle.tdb_steps.specs.Walks.{StandInChains, SparesStood, KeepsAll, KeepsBy, WalksKept, KeepsWalks}
use Rattle.tdb_steps.proofs.Cells.{here, here_kept, SameAt, same_from, fewer_from, same_keeps, but_keeps, without_keeps, keeps_then, keeps_then_all, all_keeps, front_keeps, others_kept}

-- the records of a chain of an accepted image
module _ (f : Form) (a b : List ℕ) (hands : List HandPair) (A : AcceptWith f a hands) (longer : length a ≤ length b) (j : ℕ) (low : j < f.chains) where
  abbrev pub offs : List ℕ
  offs = chain_of f a j

  whole_of : (x : ℕ) → Member x offs → Whole f a x
  whole_of x m = (linked_whole f IsChained a (word f.order a (chain_head j)) offs x (A.chains j low) m).0

  -- no byte is held twice
  once_held : (i : ℕ) → times (extents f.order a offs) i + times (hand_extents hands) i ≤ 1
  once_held i = omega (arith, A.apart i, times_all f a (chain_of f a) (free_of f a) hands i, times_member (λ l. extents f.order a (chain_of f a l)) j i f.chains low)

  -- a record that stays is as before at each key
  kept_of : (x : ℕ) → Member x offs → Body a b f x → (q : List ℕ) → here f b x q ≡ here f a x q
  kept_of x m body q = here_kept f a b longer x q (whole_of x m) (λ used. (filed_member f a j offs x (A.filed j low) m used).fits) body

  pub bodies_same : ((x : ℕ) → Member x offs → Body a b f x) → (q : List ℕ) → SameAt f a b q offs
  bodies_same bodies q = same_from f a b q offs (λ x m. kept_of x m (bodies x m) q)

  -- where the chain stays
  pub stays_kept : (stands : ℕ → Bool) → ChainStays f a b j → KeepsAll stands (chains_in f a j) (chains_in f b j)
  stays_kept stands S =
      subst (λ xs. KeepsAll stands (cells f a offs) (cells f b xs)) (sym S.same_offsets)
      (same_keeps f a b stands offs (bodies_same (λ x m i from to. S.bytes i (let one = member_held f.order a offs x i m in let is = once_in (extent_at f.order a x) i (omega (arith, from)) (omega (arith, to)) in omega (arith, one, is)))))

  -- where bytes were written that hold no record's body
  pub only_bodies : (es : List Extent) → OnlyIn es a b → ((x i : ℕ) → Member x offs → x + 4 ≤ i → i < x + 24 + rec_len_of f.order a x → times es i ≡ 0) → (x : ℕ) → Member x offs → Body a b f x
  only_bodies es only beside x m i from to = only i (beside x i m from to)

  -- the head of the chain and a hand hold none
  pub head_beside : (x i : ℕ) → Member x offs → x ≤ i → once (chain_head j, 4) i ≡ 0
  head_beside x i m from = let above = (whole_of x m).above in once_out (chain_head j, 4) i (inr (omega (arith, above, from, low)))

  pub hand_beside : (x i : ℕ) → Member x offs → x ≤ i → i < x + 24 + rec_len_of f.order a x → times (hand_extents hands) i ≡ 0
  hand_beside x i m from to = let one = member_held f.order a offs x i m in let is = once_in (extent_at f.order a x) i from (omega (arith, to)) in let most = once_held i in omega (arith, one, is, most)

  -- nor does the word that leads to a record
  pub word_beside : (before y : ℕ) → Leads (chain_head j) offs before y → (x i : ℕ) → Member x offs → x + 4 ≤ i → i < x + 24 + rec_len_of f.order a x → once (before, 4) i ≡ 0
  word_beside before y leads x i m from to =
      elim (led_from (chain_head j) offs before y leads) [
        | inl e ↦ let head = head_beside x i m (omega (arith, from)) in ap (λ z. once (z, 4) i) e ∙ head
        | inr there ↦ elim (cases_eq before x) [
          | inl same ↦ once_out (before, 4) i (inr (omega (arith, same, from)))
          | inr ne ↦ elim (cases_lt i before) [
            | inl under ↦ once_out (before, 4) i (inl under)
            | inr high ↦ elim (cases_lt i (before + 4)) [
              | inl within ↦
                  absurd (let two = two_members f.order a offs before x i there m ne in
                  let one = once_in (extent_at f.order a before) i high (omega (arith, within)) in
                  let other = once_in (extent_at f.order a x) i (omega (arith, from)) (omega (arith, to)) in
                  let most = once_held i in
                  omega (arith, two, one, other, most))
              | inr over ↦ once_out (before, 4) i (inr over)
            ]
          ]
        ]
      ]

  -- a used record of a key that is changed where it stands, of which the words up to the key's length and the key stay
  module _ (y : ℕ) (key : List ℕ) (there : Member y offs) (used : magic_of f.order a y ≡ USED) (has_key : key_at f.order a y ≡ key)
      (outside : (i : ℕ) → (i < y + 12) ⊎ (y + 24 + rec_len_of f.order a y ≤ i) → slice_index b i ≡ slice_index a i)
      (key_left : (i : ℕ) → y + 24 ≤ i → i < y + 24 + key_len_of f.order a y → slice_index b i ≡ slice_index a i) where
    fits : Fits f.order a y
    fits = (filed_member f a j offs y (A.filed j low) there used).fits

    key_now : key_at f.order b y ≡ key
    key_now =
        ap (λ n. take n (drop (y + 24) b)) (word_agrees f.order b a (y + 8) (λ i from to. outside i (inl (omega (arith, to)))))
        ∙ part_kept a b (y + 24) (key_len_of f.order a y) (let within = (whole_of y there).within in let f' = fits in omega (arith, within, f')) longer (λ i from to. key_left i from to) ∙ has_key

    other_body : (x : ℕ) → Member x offs → (x ≡ y → ⊥) → Body a b f x
    other_body x m ne i from to =
        elim (cases_lt i (y + 12)) [
          | inl under ↦ outside i (inl under)
          | inr high ↦ elim (cases_lt i (y + 24 + rec_len_of f.order a y)) [
            | inl within ↦
                absurd (let two = two_members f.order a offs x y i m there ne in
                let one = once_in (extent_at f.order a x) i (omega (arith, from)) (omega (arith, to)) in
                let other = once_in (extent_at f.order a y) i (omega (arith, high)) (omega (arith, within)) in
                let most = once_held i in
                omega (arith, two, one, other, most))
            | inr over ↦ outside i (inr over)
          ]
        ]

    same_else : (q : List ℕ) → is_key key q ≡ false → (x : ℕ) → Member x offs → here f b x q ≡ here f a x q
    same_else q other x m =
        elim (cases_eq x y) [
          | inl e ↦ subst (λ z. here f b z q ≡ here f a z q) (sym e)
              (ap (λ k. (magic_of f.order b y == USED) && is_key k q) key_now ∙ ap (λ z. (magic_of f.order b y == USED) && z) other ∙ and-false (magic_of f.order b y == USED)
              ∙ sym (ap (λ k. (magic_of f.order a y == USED) && is_key k q) has_key ∙ ap (λ z. (magic_of f.order a y == USED) && z) other ∙ and-false (magic_of f.order a y == USED)))
          | inr ne ↦ kept_of x m (other_body x m ne) q
        ]

    fewer_else : (q : List ℕ) (x : ℕ) → Member x offs → here f b x q ≡ true → here f a x q ≡ true
    fewer_else q x m =
        elim (cases_eq x y) [
          | inl e ↦ subst (λ z. here f b z q ≡ true → here f a z q ≡ true) (sym e)
              (λ is. rw (eq-eqb (magic_of f.order a y) USED used) (ap (λ k. is_key k q) (has_key ∙ sym key_now) ∙ (and_both (magic_of f.order b y == USED) (is_key (key_at f.order b y) q) is).1))
          | inr ne ↦ λ is. sym (kept_of x m (other_body x m ne) q) ∙ is
        ]

    pub in_place_kept : (stands : ℕ → Bool) → Keeps stands key (cells f a offs) (cells f b offs)
    in_place_kept stands = but_keeps f a b stands key offs (λ q other. same_from f a b q offs (same_else q other)) (λ q. fewer_from f a b q offs (fewer_else q))

  -- a record that is taken out, where all others stay
  same_without : (y : ℕ) (q : List ℕ) (xs : List ℕ) → SameAt f a b q xs → SameAt f a b q (without y xs)
  same_without y q [] same = tt
  same_without y q (x ∷ xs) same =
      elim (cases_eq x y) [
        | inl e ↦ rw (eq-eqb x y e) same.1
        | inr ne ↦ rw (ne_eqb x y ne) (same.0, same_without y q xs same.1)
      ]

  pub taken_out : (stands : ℕ → Bool) (key : List ℕ) (y : ℕ) → stands y ≡ false → key_at f.order a y ≡ key → ((x : ℕ) → Member x offs → Body a b f x) → Keeps stands key (cells f a offs) (cells f b (without y offs))
  taken_out stands key y off has_key bodies =
      keeps_then_all stands key (cells f a offs) (cells f a (without y offs)) (cells f b (without y offs)) (without_keeps f a stands key y offs off has_key)
      (same_keeps f a b stands (without y offs) (λ q. same_without y q offs (bodies_same bodies q)))

-- a hand isn't one of the records on which cursors stand
pub hand_unstood : (f : Form) (a : List ℕ) (h : HandPair) (others : List HandPair) (stands : ℕ → Bool) → AcceptWith f a (h ∷ others) → StandInChains f a stands → stands h.0 ≡ false
hand_unstood f a h others stands A stood = false_from_ne_true (stands h.0) (λ on.
    let at = stood h.0 on in
    let most = once_held f a a (h ∷ others) A (omega arith) at.0 at.1 h.0 in
    let held = member_held f.order a (chain_of f a at.0) h.0 h.0 at.2 in
    let one = once_in (extent_at f.order a h.0) h.0 (omega arith) (omega arith) in
    let other = once_in (h.0, 24 + h.1) h.0 (omega arith) (omega arith) in
    absurd (omega (arith, most, held, one, other)))

-- by whether the change is made
pub all_by : (before after : Bool) (stands : ℕ → Bool) (key : List ℕ) (cs later : List Cell) → after ≡ before → KeepsAll stands cs later → KeepsBy before after stands key cs later
all_by true true stands key cs later same K = K
all_by true false stands key cs later same K = K
all_by false true stands key cs later same K = absurd (never_true (sym same))
all_by false false stands key cs later same K = K

pub change_by : (before after : Bool) (stands : ℕ → Bool) (key : List ℕ) (cs later : List Cell) → before ≡ false → after ≡ true → Keeps stands key cs later → KeepsBy before after stands key cs later
change_by true after stands key cs later first then K = absurd (never_true (sym first))
change_by false true stands key cs later first then K = K
change_by false false stands key cs later first then K = absurd (never_true then)

-- a turn that leaves all chains
pub stays_walks : (f : Form) (a b key : List ℕ) (old : Stage) (next : Next) (hands news : List HandPair) → AcceptWith f a hands → ChainsStay f a b news → is_changed_after next ≡ is_changed old → KeepsWalks f a b key old next
stays_walks f a b key old next hands news A S same stands stood spares = record {
  members = λ p on m. subst (Member p) (sym stay.same_offsets) m;
  keeps = all_by (is_changed old) (is_changed_after next) stands key (chains_in f a (home f key)) (chains_in f b (home f key)) same (stays_kept f a b hands A S.only.front.longer (home f key) low stands stay);
}
  where
    low : home f key < f.chains
    low = home_below f key A.some

    stay : ChainStays f a b (home f key)
    stay = S.only.chains (home f key) low (λ never. never)

-- from image a to image b at most bytes of the record of a place change, behind the length of its key and beside the
-- key
pub record ChangesInPlace (a b : List ℕ) (p : Place) : Type 0 where
  pub outside : (i : ℕ) → (i < p.off + 12) ⊎ (p.off + 24 + p.rec.rec_len ≤ i) → slice_index b i ≡ slice_index a i
  pub key_left : (i : ℕ) → p.off + 24 ≤ i → i < p.off + 24 + p.rec.key_len → slice_index b i ≡ slice_index a i

-- so it is where the word of its magic was written, and where a value that fits and its length were
pub marked_in_place : (f : Form) (a b : List ℕ) (p : Place) (w : ℕ) → OldOrWord f.order a (p.off + 20) w b → ChangesInPlace a b p
marked_in_place f a b p w written = record {
  outside = λ i apart. only i (let none = once_out (p.off + 20, 4) i (elim apart [ inl under ↦ inl (omega (arith, under)) | inr over ↦ inr (omega (arith, over)) ]) in omega (arith, none));
  key_left = λ i from to. only i (let none = once_out (p.off + 20, 4) i (inr (omega (arith, from))) in omega (arith, none));
}
  where
    only : OnlyIn ((p.off + 20, 4) ∷ []) a b
    only = word_only f.order a b (p.off + 20) w ((p.off + 20, 4) ∷ []) (λ i none. omega (arith, none)) written

pub updated_in_place : (a b : List ℕ) (p : Place) (n : ℕ) → p.rec.key_len + n + 4 ≤ p.rec.rec_len → OnlyIn ((p.off + 12, 4) ∷ (p.off + 24 + p.rec.key_len, n) ∷ []) a b → ChangesInPlace a b p
updated_in_place a b p n fits only = record {
  outside = λ i apart. only i
      (let one = once_out (p.off + 12, 4) i (elim apart [ inl under ↦ inl under | inr over ↦ inr (omega (arith, over)) ]) in
      let two = once_out (p.off + 24 + p.rec.key_len, n) i (elim apart [ inl under ↦ inl (omega (arith, under)) | inr over ↦ inr (omega (arith, over, fits)) ]) in
      omega (arith, one, two));
  key_left = λ i from to. only i
      (let one = once_out (p.off + 12, 4) i (inr (omega (arith, from))) in
      let two = once_out (p.off + 24 + p.rec.key_len, n) i (inl to) in
      omega (arith, one, two));
}

-- a turn that changes the record of the key where it stands
pub in_place_walks : (f : Form) (a b key : List ℕ) (old : Stage) (next : Next) (hands : List HandPair) (p : Place) (value : Option (List ℕ)) → AcceptWith f a hands → HoldsKey f a key p → KeySet f a b key value (chain_of f a (home f key)) [] hands hands → is_changed old ≡ false → is_changed_after next ≡ true
    → ChangesInPlace a b p → KeepsWalks f a b key old next
in_place_walks f a b key old next hands p value A H K first then C stands stood spares = record {
  members = λ q on m. subst (Member q) (sym K.changed.offsets) m;
  keeps = change_by (is_changed old) (is_changed_after next) stands key (chains_in f a (home f key)) (chains_in f b (home f key)) first then
      (subst (λ xs. Keeps stands key (cells f a (chain_of f a (home f key))) (cells f b xs)) (sym K.changed.offsets)
      (in_place_kept f a b hands A (let size = K.changed.size in omega (arith, size)) (home f key) (home_below f key A.some) p.off key (subst (λ j. Member p.off (chain_of f a j)) H.at_home (place_member f a p H.place))
      (sym (place_magic f a p H.place) ∙ H.used) H.has_key
      (λ i apart. C.outside i (elim apart [ inl under ↦ inl under | inr over ↦ inr (let e = place_len f a p H.place in omega (arith, e, over)) ]))
      (λ i from to. C.key_left i from (let e = ap (λ (r : Rec). r.key_len) H.place.header in omega (arith, e, to))) stands));
}

-- a turn that takes the record of the key out
pub taken_walks : (f : Form) (a b key : List ℕ) (old : Stage) (h : HandPair) (hands news : List HandPair) (p : Place) → AcceptWith f a hands → HoldsKey f a key p → KeySet f a b key None (without p.off (chain_of f a (home f key))) [] hands news → is_changed old ≡ false
    → h ≡ hand_at p → OnlyIn (word_before (Some p)) a b → KeepsWalks f a b key old (Next.Step (Stage.Changed h))
taken_walks f a b key old h hands news p A H K first is only stands stood spares = record {
  members = λ q on m. subst (Member q) (sym K.changed.offsets) (member_without q p.off (chain_of f a (home f key)) m (λ e. never_true (sym unstood ∙ (ap stands (sym e) ∙ on))));
  keeps = change_by (is_changed old) true stands key (chains_in f a (home f key)) (chains_in f b (home f key)) first refl
      (subst (λ xs. Keeps stands key (cells f a (chain_of f a (home f key))) (cells f b xs)) (sym K.changed.offsets)
      (taken_out f a b hands A longer (home f key) low stands key p.off unstood H.has_key
      (only_bodies f a b hands A longer (home f key) low (word_before (Some p)) only (λ x i m from to. let none = word_beside f a b hands A longer (home f key) low p.before p.off leads x i m from to in omega (arith, none)))));
}
  where
    low : home f key < f.chains
    low = home_below f key A.some

    longer : length a ≤ length b
    longer = let size = K.changed.size in omega (arith, size)

    unstood : stands p.off ≡ false
    unstood = ap (λ (k : HandPair). stands k.0) (sym is) ∙ spares

    leads : Leads (chain_head (home f key)) (chain_of f a (home f key)) p.before p.off
    leads = subst (λ j. Leads (chain_head j) (chain_of f a j) p.before p.off) H.at_home H.place.leads

-- a turn that puts a new record of the key in front of its chain, and takes the old one out where there is one
module _ (f : Form) (a b key : List ℕ) (value : Option (List ℕ)) (old : Stage) (next : Next) (h : HandPair) (others news : List HandPair) (A : AcceptWith f a (h ∷ others)) (first : is_changed old ≡ false) (then : is_changed_after next ≡ true) (longer : length a ≤ length b) where
  low_home : home f key < f.chains
  low_home = home_below f key A.some

  abbrev own : List ℕ
  own = chain_of f a (home f key)

  -- neither the head of the chain nor the hand holds a byte of a record's body
  both_beside : (x i : ℕ) → Member x own → x + 4 ≤ i → i < x + 24 + rec_len_of f.order a x → once (chain_head (home f key), 4) i + once (h.0, 24 + h.1) i ≡ 0
  both_beside x i m from to =
      let head = head_beside f a b (h ∷ others) A longer (home f key) low_home x i m (omega (arith, from)) in
      let hand = hand_beside f a b (h ∷ others) A longer (home f key) low_home x i m (omega (arith, from)) to in
      omega (arith, head, hand)

  put_front : (rest : List ℕ) (stands : ℕ → Bool) → StandInChains f a stands → KeySet f a b key value (h.0 ∷ rest) (h ∷ []) (h ∷ others) news → ((q : ℕ) → stands q ≡ true → Member q own → Member q rest)
      → Keeps stands key (cells f a own) (cells f b rest) → WalksKept f a b key stands (is_changed old) (is_changed_after next)
  put_front rest stands stood K there keeps = record {
    members = λ q on m. subst (Member q) (sym K.changed.offsets) (member_other q h.0 rest (there q on m));
    keeps = change_by (is_changed old) (is_changed_after next) stands key (chains_in f a (home f key)) (chains_in f b (home f key)) first then
        (subst (λ xs. Keeps stands key (cells f a own) (cells f b xs)) (sym K.changed.offsets)
        (front_keeps stands key (record { place = h.0; key = key_at f.order b h.0; live = magic_of f.order b h.0 == USED }) (cells f a own) (cells f b rest) (hand_unstood f a h others stands A stood)
        (λ q other. ap (λ xs. live_in (cells f b xs) q) (sym K.changed.offsets) ∙ others_kept f a b key value (h ∷ others) news A K.changed.accepted K.map low_home q other) keeps));
  }

  pub linked_walks : (over : Option Place) → IsFound f a key over → KeySet f a b key value (h.0 ∷ without_place over own) (h ∷ []) (h ∷ others) news → ((stands : ℕ → Bool) → SparesStood stands next → (p : Place) → over ≡ Some p → stands p.off ≡ false)
      → OnlyIn ((chain_head (home f key), 4) ∷ (h.0, 24 + h.1) ∷ word_before over) a b → KeepsWalks f a b key old next
  linked_walks None missing K spared only stands stood spares =
      put_front own stands stood K (λ q on m. m)
      (all_keeps stands key (cells f a own) (cells f b own)
      (same_keeps f a b stands own (bodies_same f a b (h ∷ others) A longer (home f key) low_home
      (only_bodies f a b (h ∷ others) A longer (home f key) low_home ((chain_head (home f key), 4) ∷ (h.0, 24 + h.1) ∷ []) only (λ x i m from to. let both = both_beside x i m from to in omega (arith, both))))))
  linked_walks (Some p) H K spared only stands stood spares =
      put_front (without p.off own) stands stood K (λ q on m. member_without q p.off own m (λ e. never_true (sym unstood ∙ (ap stands (sym e) ∙ on))))
      (taken_out f a b (h ∷ others) A longer (home f key) low_home stands key p.off unstood H.has_key
      (only_bodies f a b (h ∷ others) A longer (home f key) low_home ((chain_head (home f key), 4) ∷ (h.0, 24 + h.1) ∷ (p.before, 4) ∷ []) only
      (λ x i m from to. let both = both_beside x i m from to in let none = word_beside f a b (h ∷ others) A longer (home f key) low_home p.before p.off leads x i m from to in omega (arith, both, none))))
    where
      unstood : stands p.off ≡ false
      unstood = spared stands spares p refl

      leads : Leads (chain_head (home f key)) own p.before p.off
      leads = subst (λ j. Leads (chain_head j) (chain_of f a j) p.before p.off) H.at_home H.place.leads

-- one change that keeps the chain's offsets, and another after it
pub walks_then : (f : Form) (a m b key : List ℕ) (old mid : Stage) (next then : Next) (hands : List HandPair) (value : Option (List ℕ)) → KeySet f a m key value (chain_of f a (home f key)) [] hands hands
    → is_changed old ≡ false → is_changed_after next ≡ true → is_changed mid ≡ false → is_changed_after then ≡ true → ((stands : ℕ → Bool) → SparesStood stands then → SparesStood stands next)
    → KeepsWalks f a m key old next → KeepsWalks f m b key mid then → KeepsWalks f a b key old then
walks_then f a m b key old mid next then hands value K first after second last spared one two stands stood spares = record {
  members = λ p on m. W.members p on (V.members p on m);
  keeps = change_by (is_changed old) (is_changed_after then) stands key (chains_in f a (home f key)) (chains_in f b (home f key)) first last
      (keeps_then stands key (chains_in f a (home f key)) (chains_in f m (home f key)) (chains_in f b (home f key)) (made_change (is_changed old) (is_changed_after next) first after V.keeps) (made_change (is_changed mid) (is_changed_after then) second last W.keeps));
}
  where
    made_change : {cs later : List Cell} (x y : Bool) → x ≡ false → y ≡ true → KeepsBy x y stands key cs later → Keeps stands key cs later
    made_change true y e d k = absurd (never_true (sym e))
    made_change false true e d k = k
    made_change false false e d k = absurd (never_true d)

    V : WalksKept f a m key stands (is_changed old) (is_changed_after next)
    V = one stands stood (spared stands spares)

    stood_then : StandInChains f m stands
    stood_then p on = let at = stood p on in elim (cases_eq at.0 (home f key)) [
      | inl e ↦ (home f key, subst (λ j. j < f.chains) e at.1, V.members p on (subst (λ j. Member p (chain_of f a j)) e at.2))
      | inr ne ↦ (at.0, at.1, subst (Member p) (sym (K.changed.only.chains at.0 at.1 ne).same_offsets) at.2)
    ]

    W : WalksKept f m b key stands (is_changed mid) (is_changed_after then)
    W = two stands stood_then spares

-- a turn after which no chain changes any more
pub walks_stay : (f : Form) (a m b key : List ℕ) (stands : ℕ → Bool) (before after : Bool) (hands news : List HandPair) → AcceptWith f m hands → ChainsStay f m b news → home f key < f.chains → WalksKept f a m key stands before after → WalksKept f a b key stands before after
walks_stay f a m b key stands before after hands news M S low W = record {
  members = λ p on m. subst (Member p) (sym stay.same_offsets) (W.members p on m);
  keeps = by_both before after W.keeps;
}
  where
    stay : ChainStays f m b (home f key)
    stay = S.only.chains (home f key) low (λ never. never)

    all : KeepsAll stands (chains_in f m (home f key)) (chains_in f b (home f key))
    all = stays_kept f m b hands M S.only.front.longer (home f key) low stands stay

    two_all : KeepsAll stands (chains_in f a (home f key)) (chains_in f m (home f key)) → KeepsAll stands (chains_in f a (home f key)) (chains_in f b (home f key))
    two_all K = record { whole = λ q. all.whole q ∙ K.whole q; behind_same = λ p q on. all.behind_same p q on ∙ K.behind_same p q on }

    by_both : (x y : Bool) → KeepsBy x y stands key (chains_in f a (home f key)) (chains_in f m (home f key)) → KeepsBy x y stands key (chains_in f a (home f key)) (chains_in f b (home f key))
    by_both true true K = two_all K
    by_both true false K = two_all K
    by_both false true K = keeps_then_all stands key (chains_in f a (home f key)) (chains_in f m (home f key)) (chains_in f b (home f key)) K all
    by_both false false K = two_all K

-- where nothing changes
pub unmoved_walks : (f : Form) (a key : List ℕ) (stands : ℕ → Bool) (before after : Bool) → after ≡ before → WalksKept f a a key stands before after
unmoved_walks f a key stands before after same = record {
  members = λ p on m. m;
  keeps = all_by before after stands key (chains_in f a (home f key)) (chains_in f a (home f key)) same (record { whole = λ q. refl; behind_same = λ p q on. refl });
}

-- the hand that a link gives back is that of the old record, where there is one
pub some_hand : {over : Option Place} {out : Option HandPair} {old : HandPair} {p : Place} → out ≡ hands_back over → out ≡ Some old → over ≡ Some p → hand_at p ≡ old
some_hand {p = p} back is there = let same : Some (hand_at p) ≡ Some _ = sym (back ∙ ap hands_back there) ∙ is in cc

pub no_hand : {over : Option Place} {out : Option HandPair} {p : Place} {C : Type 0} → out ≡ hands_back over → out ≡ None → over ≡ Some p → C
no_hand {p = p} back is there = let same : Some (hand_at p) ≡ None = sym (back ∙ ap hands_back there) ∙ is in absurd (cc same)
