-- Changes of a chain keep it but for a key, and walks shift by them.
use Rattle.std.proofs.Common.{◌≡◌, ℕ, ◌+◌, ◌<◌, ◌≤◌, List, [], ◌∷◌, Bool, true, false, cond, ◌==◌, nat_le, nat_lt, refl, sym, ◌∙◌, ap, subst, inl, inr, ◌⊎◌, arith, ◌≢◌}
use Rattle.std.specs.Prelude.{◌&&◌, ◌||◌}
use Rattle.std.proofs.lemmas.Bool.{cases_Bool, cases_eq, eqb-true, ne_eqb, leb-true, ltb-true}
use Rattle.tdb_space.specs.Form.{Form}
use Rattle.tdb_space.specs.Pairs.{home}
use Rattle.tdb_law.specs.Openers.{is_key}
use Rattle.tdb_law.specs.Layout.{Cell, Chains, Place, live_in, behind, ahead_of, mark_of, Keeps, unlinked, killed, HasKeyAt, LinkKeeps, UnlinkKeeps, KillKeeps, IsStood, WalksShift, AllShift}
use Rattle.tdb_law.specs.Layout.Place.{off_chains, before_chain, on_record}
use Rattle.tdb_law.proofs.Tests.{never_true, and_both, or_cases, or_first, or_second}

-- a record of another key is no matter
other_key : (b : Bool) (k q : List ℕ) (r : Bool) → is_key k q ≡ false → (b && is_key k q) || r ≡ r
other_key true k q r e = ap (λ z. z || r) e
other_key false k q r e = refl

stood_apart : (stands : ℕ → Bool) (p q : ℕ) → stands q ≡ false → stands p ≡ true → (q == p) ≡ false
stood_apart stands p q off on = ne_eqb q p (λ e. never_true (sym off ∙ (ap stands e ∙ on)))

pub link_keeps : LinkKeeps
link_keeps stands new cs off = record {
  whole = λ q other. other_key new.live new.key q (live_in cs q) other;
  behind_same = λ p q on other. rw (stood_apart stands p new.place off on) refl;
  behind_fewer = λ p q on e. subst (λ b. live_in (cond b cs (behind cs p)) q ≡ true) (stood_apart stands p new.place off on) e;
}

-- one taken out, and one marked dead: at another key both are as before
whole_out : (b : Bool) (c : Cell) (cs less : List Cell) (q : List ℕ) → (b ≡ true → is_key c.key q ≡ false) → (b ≡ false → live_in less q ≡ live_in cs q)
    → live_in (cond b cs (c ∷ less)) q ≡ (c.live && is_key c.key q) || live_in cs q
whole_out true c cs less q here else_same = sym (other_key c.live c.key q (live_in cs q) (here refl))
whole_out false c cs less q here else_same = ap (λ z. (c.live && is_key c.key q) || z) (else_same refl)

whole_dead : (b : Bool) (c : Cell) (cs less : List Cell) (q : List ℕ) → (b ≡ true → is_key c.key q ≡ false) → (b ≡ false → live_in less q ≡ live_in cs q)
    → live_in (cond b (record c { live = false } ∷ cs) (c ∷ less)) q ≡ (c.live && is_key c.key q) || live_in cs q
whole_dead true c cs less q here else_same = sym (other_key c.live c.key q (live_in cs q) (here refl))
whole_dead false c cs less q here else_same = ap (λ z. (c.live && is_key c.key q) || z) (else_same refl)

unlinked_whole : (key : List ℕ) (old : ℕ) (cs : List Cell) → HasKeyAt cs old key → (q : List ℕ) → is_key key q ≡ false → live_in (unlinked cs old) q ≡ live_in cs q
unlinked_whole key old [] has_key q other = refl
unlinked_whole key old (c ∷ cs) has_key q other =
    whole_out (c.place == old) c cs (unlinked cs old) q (λ e. ap (λ k. is_key k q) (has_key.0 e) ∙ other) (λ e. unlinked_whole key old cs (has_key.1 e) q other)

killed_whole : (key : List ℕ) (old : ℕ) (cs : List Cell) → HasKeyAt cs old key → (q : List ℕ) → is_key key q ≡ false → live_in (killed cs old) q ≡ live_in cs q
killed_whole key old [] has_key q other = refl
killed_whole key old (c ∷ cs) has_key q other =
    whole_dead (c.place == old) c cs (killed cs old) q (λ e. ap (λ k. is_key k q) (has_key.0 e) ∙ other) (λ e. killed_whole key old cs (has_key.1 e) q other)

-- no key is there that wasn't
fewer_out : (b : Bool) (c : Cell) (cs less : List Cell) (q : List ℕ) → (live_in less q ≡ true → live_in cs q ≡ true) → live_in (cond b cs (c ∷ less)) q ≡ true → (c.live && is_key c.key q) || live_in cs q ≡ true
fewer_out true c cs less q fewer e = or_second (c.live && is_key c.key q) (live_in cs q) e
fewer_out false c cs less q fewer e =
    elim (or_cases (c.live && is_key c.key q) (live_in less q) e) [
      | inl here ↦ or_first (c.live && is_key c.key q) (live_in cs q) here
      | inr there ↦ or_second (c.live && is_key c.key q) (live_in cs q) (fewer there)
    ]

fewer_dead : (b : Bool) (c : Cell) (cs less : List Cell) (q : List ℕ) → (live_in less q ≡ true → live_in cs q ≡ true) → live_in (cond b (record c { live = false } ∷ cs) (c ∷ less)) q ≡ true
    → (c.live && is_key c.key q) || live_in cs q ≡ true
fewer_dead true c cs less q fewer e = or_second (c.live && is_key c.key q) (live_in cs q) e
fewer_dead false c cs less q fewer e = fewer_out false c cs less q fewer e

unlinked_fewer : (old : ℕ) (cs : List Cell) (q : List ℕ) → live_in (unlinked cs old) q ≡ true → live_in cs q ≡ true
unlinked_fewer old [] q e = e
unlinked_fewer old (c ∷ cs) q e = fewer_out (c.place == old) c cs (unlinked cs old) q (unlinked_fewer old cs q) e

killed_fewer : (old : ℕ) (cs : List Cell) (q : List ℕ) → live_in (killed cs old) q ≡ true → live_in cs q ≡ true
killed_fewer old [] q e = e
killed_fewer old (c ∷ cs) q e = fewer_dead (c.place == old) c cs (killed cs old) q (killed_fewer old cs q) e

-- the same behind a record that is stood on
cond_both : (b : Bool) (l m u v : List Cell) (q : List ℕ) → live_in l q ≡ live_in u q → live_in m q ≡ live_in v q → live_in (cond b l m) q ≡ live_in (cond b u v) q
cond_both true l m u v q one two = one
cond_both false l m u v q one two = two

cond_fewer : (b : Bool) (l m u v : List Cell) (q : List ℕ) → (live_in l q ≡ true → live_in u q ≡ true) → (live_in m q ≡ true → live_in v q ≡ true) → live_in (cond b l m) q ≡ true → live_in (cond b u v) q ≡ true
cond_fewer true l m u v q one two = one
cond_fewer false l m u v q one two = two

behind_out : (b : Bool) (c : Cell) (less cs : List Cell) (p : ℕ) (q : List ℕ) → (b ≡ true → (c.place == p) ≡ false) → (b ≡ false → live_in less q ≡ live_in cs q) → (b ≡ false → live_in (behind less p) q ≡ live_in (behind cs p) q)
    → live_in (behind (cond b cs (c ∷ less)) p) q ≡ live_in (cond (c.place == p) cs (behind cs p)) q
behind_out true c less cs p q apart whole rest = ap (λ z. live_in (cond z cs (behind cs p)) q) (sym (apart refl))
behind_out false c less cs p q apart whole rest = cond_both (c.place == p) less (behind less p) cs (behind cs p) q (whole refl) (rest refl)

behind_dead : (b : Bool) (c : Cell) (less cs : List Cell) (p : ℕ) (q : List ℕ) → (b ≡ false → live_in less q ≡ live_in cs q) → (b ≡ false → live_in (behind less p) q ≡ live_in (behind cs p) q)
    → live_in (behind (cond b (record c { live = false } ∷ cs) (c ∷ less)) p) q ≡ live_in (cond (c.place == p) cs (behind cs p)) q
behind_dead true c less cs p q whole rest = refl
behind_dead false c less cs p q whole rest = cond_both (c.place == p) less (behind less p) cs (behind cs p) q (whole refl) (rest refl)

fewer_behind_out : (b : Bool) (c : Cell) (less cs : List Cell) (p : ℕ) (q : List ℕ) → (b ≡ true → (c.place == p) ≡ false) → (live_in less q ≡ true → live_in cs q ≡ true)
    → (live_in (behind less p) q ≡ true → live_in (behind cs p) q ≡ true) → live_in (behind (cond b cs (c ∷ less)) p) q ≡ true → live_in (cond (c.place == p) cs (behind cs p)) q ≡ true
fewer_behind_out true c less cs p q apart whole rest = λ e. ap (λ z. live_in (cond z cs (behind cs p)) q) (apart refl) ∙ e
fewer_behind_out false c less cs p q apart whole rest = cond_fewer (c.place == p) less (behind less p) cs (behind cs p) q whole rest

fewer_behind_dead : (b : Bool) (c : Cell) (less cs : List Cell) (p : ℕ) (q : List ℕ) → (live_in less q ≡ true → live_in cs q ≡ true)
    → (live_in (behind less p) q ≡ true → live_in (behind cs p) q ≡ true) → live_in (behind (cond b (record c { live = false } ∷ cs) (c ∷ less)) p) q ≡ true → live_in (cond (c.place == p) cs (behind cs p)) q ≡ true
fewer_behind_dead true c less cs p q whole rest = λ e. e
fewer_behind_dead false c less cs p q whole rest = cond_fewer (c.place == p) less (behind less p) cs (behind cs p) q whole rest

place_apart : (stands : ℕ → Bool) (old p : ℕ) (c : Cell) → stands old ≡ false → stands p ≡ true → (c.place == old) ≡ true → (c.place == p) ≡ false
place_apart stands old p c off on e = subst (λ u. (u == p) ≡ false) (sym (eqb-true c.place old e)) (stood_apart stands p old off on)

unlinked_behind : (stands : ℕ → Bool) (key : List ℕ) (old : ℕ) (cs : List Cell) → stands old ≡ false → HasKeyAt cs old key → (p : ℕ) (q : List ℕ) → stands p ≡ true → is_key key q ≡ false
    → live_in (behind (unlinked cs old) p) q ≡ live_in (behind cs p) q
unlinked_behind stands key old [] off has_key p q on other = refl
unlinked_behind stands key old (c ∷ cs) off has_key p q on other =
    behind_out (c.place == old) c (unlinked cs old) cs p q (place_apart stands old p c off on)
    (λ e. unlinked_whole key old cs (has_key.1 e) q other) (λ e. unlinked_behind stands key old cs off (has_key.1 e) p q on other)

killed_behind : (key : List ℕ) (old : ℕ) (cs : List Cell) → HasKeyAt cs old key → (p : ℕ) (q : List ℕ) → is_key key q ≡ false → live_in (behind (killed cs old) p) q ≡ live_in (behind cs p) q
killed_behind key old [] has_key p q other = refl
killed_behind key old (c ∷ cs) has_key p q other =
    behind_dead (c.place == old) c (killed cs old) cs p q (λ e. killed_whole key old cs (has_key.1 e) q other) (λ e. killed_behind key old cs (has_key.1 e) p q other)

unlinked_behind_fewer : (stands : ℕ → Bool) (old : ℕ) (cs : List Cell) → stands old ≡ false → (p : ℕ) (q : List ℕ) → stands p ≡ true → live_in (behind (unlinked cs old) p) q ≡ true → live_in (behind cs p) q ≡ true
unlinked_behind_fewer stands old [] off p q on e = e
unlinked_behind_fewer stands old (c ∷ cs) off p q on e =
    fewer_behind_out (c.place == old) c (unlinked cs old) cs p q (place_apart stands old p c off on) (unlinked_fewer old cs q) (unlinked_behind_fewer stands old cs off p q on) e

killed_behind_fewer : (old : ℕ) (cs : List Cell) (p : ℕ) (q : List ℕ) → live_in (behind (killed cs old) p) q ≡ true → live_in (behind cs p) q ≡ true
killed_behind_fewer old [] p q e = e
killed_behind_fewer old (c ∷ cs) p q e = fewer_behind_dead (c.place == old) c (killed cs old) cs p q (killed_fewer old cs q) (killed_behind_fewer old cs p q) e

pub unlink_keeps : UnlinkKeeps
unlink_keeps stands key old cs off has_key = record {
  whole = unlinked_whole key old cs has_key;
  behind_same = unlinked_behind stands key old cs off has_key;
  behind_fewer = unlinked_behind_fewer stands old cs off;
}

pub kill_keeps : KillKeeps
kill_keeps stands key old cs has_key = record {
  whole = killed_whole key old cs has_key;
  behind_same = λ p q on other. killed_behind key old cs has_key p q other;
  behind_fewer = λ p q on e. killed_behind_fewer old cs p q e;
}

-- so a walk shifts
module _ (f : Form) (stands : ℕ → Bool) (key : List ℕ) (cs later : Chains) (K : Keeps stands key (cs (home f key)) (later (home f key))) (others : (j : ℕ) → j ≢ home f key → later j ≡ cs j) where
  whole_same : (j : ℕ) (q : List ℕ) → is_key key q ≡ false → live_in (later j) q ≡ live_in (cs j) q
  whole_same j q other =
      elim (cases_eq j (home f key)) [
        | inl e ↦ subst (λ u. live_in (later u) q ≡ live_in (cs u) q) (sym e) (K.whole q other)
        | inr ne ↦ ap (λ l. live_in l q) (others j ne)
      ]

  behind_there : (i p : ℕ) (q : List ℕ) → stands p ≡ true → is_key key q ≡ false → live_in (behind (later i) p) q ≡ live_in (behind (cs i) p) q
  behind_there i p q on other =
      elim (cases_eq i (home f key)) [
        | inl e ↦ subst (λ u. live_in (behind (later u) p) q ≡ live_in (behind (cs u) p) q) (sym e) (K.behind_same p q on other)
        | inr ne ↦ ap (λ l. live_in (behind l p) q) (others i ne)
      ]

  fewer_there : (i p : ℕ) (q : List ℕ) → stands p ≡ true → live_in (behind (later i) p) q ≡ true → live_in (behind (cs i) p) q ≡ true
  fewer_there i p q on =
      elim (cases_eq i (home f key)) [
        | inl e ↦ subst (λ u. live_in (behind (later u) p) q ≡ true → live_in (behind (cs u) p) q ≡ true) (sym e) (K.behind_fewer p q on)
        | inr ne ↦ (λ e. ap (λ l. live_in (behind l p) q) (sym (others i ne)) ∙ e)
      ]

  -- at another key nothing has changed
  ahead_same : (place : Place) → IsStood stands place → (q : List ℕ) → is_key key q ≡ false → ahead_of f later place q ≡ ahead_of f cs place q
  ahead_same off_chains stood q other = refl
  ahead_same (before_chain i) stood q other = ap (λ z. nat_le i (home f q) && z) (whole_same (home f q) q other)
  ahead_same (on_record i p) stood q other = by_chain (home f q == i)
    where
      by_chain : (b : Bool) → cond b (live_in (behind (later i) p) q) (nat_lt i (home f q) && live_in (later (home f q)) q) ≡ cond b (live_in (behind (cs i) p) q) (nat_lt i (home f q) && live_in (cs (home f q)) q)
      by_chain true = behind_there i p q stood other
      by_chain false = ap (λ z. nat_lt i (home f q) && z) (whole_same (home f q) q other)

  -- no key has come to be further on, but in a chain that isn't entered
  ahead_fewer : (place : Place) → IsStood stands place → (q : List ℕ) → ahead_of f later place q ≡ true → (ahead_of f cs place q ≡ true) ⊎ ((mark_of f cs place).reached ≤ home f q)
  ahead_fewer off_chains stood q e = absurd (never_true e)
  ahead_fewer (before_chain i) stood q e = inr (leb-true i (home f q) (and_both (nat_le i (home f q)) (live_in (later (home f q)) q) e).0)
  ahead_fewer (on_record i p) stood q e = by_chain (home f q == i) e
    where
      by_chain : (b : Bool) → cond b (live_in (behind (later i) p) q) (nat_lt i (home f q) && live_in (later (home f q)) q) ≡ true
          → (cond b (live_in (behind (cs i) p) q) (nat_lt i (home f q) && live_in (cs (home f q)) q) ≡ true) ⊎ (i + 1 ≤ home f q)
      by_chain true e2 = inl (fewer_there i p q stood e2)
      by_chain false e2 = (let low : i < home f q = ltb-true i (home f q) (and_both (nat_lt i (home f q)) (live_in (later (home f q)) q) e2).0 in inr (omega (arith, low)))

pub walks_shift : WalksShift
walks_shift f stands key lost cs later place K others stood at_key = record {
  inside = refl;
  reached = refl;
  fewer = ahead_fewer f stands key cs later K others place stood;
  kept = λ q e.
      (elim (cases_Bool (is_key key q)) [
        | inl same ↦ at_key q same e
        | inr other ↦ inl (ahead_same f stands key cs later K others place stood q other ∙ e)
      ]);
}

pub all_shift : AllShift
all_shift f lost cs later off_chains off there = record { inside = refl; reached = refl; fewer = λ k e. absurd (never_true e); kept = λ k e. absurd (never_true e) }
all_shift f lost cs later (before_chain i) off there = record {
  inside = refl;
  reached = refl;
  fewer = λ k e. inr (leb-true i (home f k) (and_both (nat_le i (home f k)) (live_in (later (home f k)) k) e).0);
  kept = λ k e.
      (let parts = and_both (nat_le i (home f k)) (live_in (cs (home f k)) k) e in
      elim (there k parts.1) [
        | inl still ↦ inl (rw parts.0 still)
        | inr gone ↦ inr gone
      ]);
}
all_shift f lost cs later (on_record i p) off there = absurd off
