-- Who asks for the sequence number beside one aside that holds all records for writing: it is blocked at the byte of
-- the number, or that is free.
use Rattle.std.proofs.Common.{◌≡◌, ◌≢◌, ◌⊎◌, ℕ, ◌+◌, ◌<◌, ◌≤◌, List, false, nat_le, nat_lt, None, refl, sym, ◌∙◌, ap, subst, inl, inr, arith}
use Rattle.std.specs.Prelude.{◌&&◌, if◌then◌else◌}
use Rattle.std.proofs.lemmas.Bool.{cases_eq}
use Rattle.std.proofs.lemmas.Bool.Decides.{nat_tests}
use Rattle.tdb_space.specs.Form.{Form, form_in}
use Rattle.tdb_law.specs.Commands.Command.{Seqnum}
use Rattle.tdb_law.specs.Commands.Turn.{Blocked}
use Rattle.tdb_law.specs.Effects.{IsFree, IsFirstConflict}
use Rattle.tdb_law.specs.Held.{wanted, decided}
use Rattle.tdb_law.specs.Openers.{Own, Spot, View}
use Rattle.tdb_law.specs.Refusals.{refusal}
use Rattle.tdb_law.specs.Rows.{is_changed}
use Rattle.tdb_law.specs.Ends.{waits}
use Rattle.tdb_law.specs.Turned.{Turned, want}
use Rattle.tdb_law.specs.World.{State}
use Rattle.tdb_law.proofs.Emptied.{unchanged_start}
use Rattle.tdb_law.proofs.Walking.{put_here, put_else}
use Rattle.tdb_law.specs.OneAside.Sides.{Past, Side, beside}
use Rattle.tdb_law.proofs.OneAside.Idle.{waiting_is_turned}
use Rattle.tdb_commands.specs.InLaw.{law_opener}
use Rattle.tdb_openers.specs.ShutOut.{IsTurnBeside}
use Rattle.tdb_openers.specs.Worlds.{World, state_in, law_of_task}
use Rattle.tdb_openers.specs.declared.job.Task.{Task}
use Rattle.tdb_openers.specs.declared.opener.Opener.{Opener}
use Rattle.tdb_openers.proofs.Joining.Opening.{low_is_free}
use Rattle.tdb_openers.proofs.Barred.ShutOut.{IsBarred, apart, its_own, its_task}

-- what a command that asks for the number wants of each byte, before its first turn
abbrev asks : ℕ → ℕ
asks b = if nat_le 48 b && nat_lt b 49 then 1 else 0

never_refused : (f : Form) (x : Own) → x.txn ≡ None → refusal f Seqnum x ≡ None
unfolding refusal
never_refused f x out = rw out refl

asks_so : (f : Form) (x : Own) (a : Spot) (v : View) (b : ℕ) → x.txn ≡ None → wanted f Seqnum x a v 0 b ≡ asks b
unfolding wanted
asks_so f x a v b out = let none = never_refused f x out in rw (none, out) (omega arith)

asks_there : asks 48 ≡ 1
asks_there = refl

asks_else : (b : ℕ) → b ≢ 48 → asks b ≡ 0
asks_else b ne = grind (arith, nat_tests)

module _ {w : World} {img : List ℕ} {past : Past} {s : Side} {holder who : ℕ} {x : Opener} {t : Task} {any : List ℕ} {size : ℕ} (C : IsBarred w img past s holder who x t any size)
    (asking : law_of_task t ≡ record { command = Seqnum; steps = 0 }) where
  abbrev f : Form
  f = form_in w.header

  abbrev l : ℕ
  l = law_opener who

  abbrev q : State
  q = beside (state_in w img) past s

  out : (q.own l).txn ≡ None
  out = ap (λ (z : Own). z.txn) (its_own C)

  wants : (b : ℕ) → want f q l (law_of_task t) b ≡ asks b
  wants b = ap (λ z. want f q l z b) asking ∙ asks_so f (q.own l) (decided (q.spot l) (q.view l) 0) (q.view l) b out

  -- among the others nobody holds a byte as low
  low : (o b : ℕ) → o ≢ s.here → b < 164 → q.table o b ≡ 0
  low o b else_where under = ap (λ g. g b) (put_else (state_in w img).table s.here s.table o else_where) ∙ low_is_free f w.options w.openers w.table any size C.stands (o + 1) b under

  at_side : (b : ℕ) → q.table s.here b ≡ s.table b
  at_side b = ap (λ g. g b) (put_here (state_in w img).table s.here s.table s.here refl)

  here_else : s.here ≢ l
  here_else e = apart C (sym e)

  least : (p b : ℕ) → p ≢ l → 2 < want f q l (law_of_task t) b + q.table p b → (48 < b) ⊎ ((48 ≡ b) × (s.here ≤ p))
  least p b ne over = elim (cases_eq b 48) [
    | inl is ↦ elim (cases_eq p s.here) [
      | inl here ↦ inr (sym is, omega (arith, here))
      | inr other ↦ absurd (let none = low p b other (omega (arith, is)) in let one = wants b ∙ ap asks is in omega (arith, over, none, one))
    ]
    | inr off ↦ absurd (let none = wants b ∙ asks_else b off in let most = C.shuts.sound.apart p l b ne in omega (arith, over, none, most))
  ]

  conflict : 2 ≤ s.table 48 → IsFirstConflict q.table l (want f q l (law_of_task t)) s.here 48
  conflict two = record {
    other = here_else;
    conflict = let one : want f q l (law_of_task t) 48 ≡ 1 = wants 48 in let held = at_side 48 in omega (arith, one, held, two);
    least = least;
  }

  pub number_free : s.table 48 ≡ 0 → IsFree q.table l (want f q l (law_of_task t))
  number_free none = record {
    free = λ p b ne. elim (cases_eq b 48) [
      | inl is ↦ elim (cases_eq p s.here) [
        | inl here ↦ (let one = wants b ∙ ap asks is in let held = ap (λ o. q.table o b) here ∙ at_side b ∙ ap s.table is ∙ none in omega (arith, one, held))
        | inr other ↦ (let nothing = low p b other (omega (arith, is)) in let one = wants b ∙ ap asks is in omega (arith, nothing, one))
      ]
      | inr off ↦ (let nothing = wants b ∙ asks_else b off in let most = C.shuts.sound.apart p l b ne in omega (arith, nothing, most))
    ];
  }

  unchanged : is_changed f (law_of_task t).command (q.own l) (law_of_task t).steps ≡ false
  unchanged = ap (λ z. is_changed f z.command (q.own l) z.steps) asking ∙ unchanged_start f Seqnum (q.own l)

  pub number_barred : 2 ≤ s.table 48 → IsTurnBeside w w img past s l (law_of_task t) (Blocked (law_opener holder) 48)
  number_barred two = record {
    turned = subst (λ o. Turned f q l (law_of_task t) (Blocked o 48) q) here_named
        (waiting_is_turned f q l (law_of_task t) s.here 48 C.shuts.sound refl (its_task C) (ap (λ z. waits z.command) asking) unchanged (conflict two));
    aside = C.shuts.aside;
  }
    where
      here_named : s.here ≡ law_opener holder
      here_named = let counted = C.shuts.counted in omega (arith, counted)
