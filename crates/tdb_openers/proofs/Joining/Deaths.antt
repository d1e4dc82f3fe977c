-- An opener that dies: it has and holds nothing any more, and the others lose nothing.
use Rattle.std.proofs.Common.{◌≡◌, ◌≢◌, ℕ, ◌+◌, ◌-◌, ◌≤◌, List, [], length, Option, slice_get, slice_set, true, Some, None, refl, sym, ◌∙◌, ap, subst, inl, inr, arith, le_refl}
use Rattle.std.proofs.lemmas.Bool.{cases_eq}
use Rattle.tdb_space.specs.Form.{Form, form_in}
use Rattle.tdb_space.specs.Pairs.{joined}
use Rattle.tdb_locks.specs.HeldLocks.{nothing_held}
use Rattle.tdb_locks.specs.LockTable.{held}
use Rattle.tdb_locks.specs.declared.piece.Piece.{Piece}
use Rattle.tdb_law.specs.Openers.{closed}
use Rattle.tdb_law.specs.Lines.{most_openers, EndsTransaction, MayDie, leaves_open}
use Rattle.tdb_law.specs.Layout.{chains_in, mark_of}
use Rattle.tdb_law.specs.Walks.{Shift}
use Rattle.tdb_law.specs.Events.{Dies}
use Rattle.tdb_law.proofs.Tests.{never_true}
use Rattle.tdb_commands.specs.InLaw.{law_opener}
use Rattle.tdb_steps.specs.Holdings.{strength, table_of}
use Rattle.tdb_walk.specs.declared.standing.Standing.TheVariants.{On, Past}
use Rattle.tdb_commands.specs.declared.options.Options.{Options}
use Rattle.tdb_openers.specs.declared.opener.Opener.{Opener}
use Rattle.tdb_openers.specs.declared.job.Job.{Job}
use Rattle.tdb_openers.specs.declared.job.Job.TheVariants as Jobs
use Rattle.tdb_openers.specs.declared.job.Task.{Task}
use Rattle.tdb_openers.specs.Openers.{own_of, own_at, spot_at, place_at, spots_of, task_at, law_task, command_in, hands_of_job, hands_of_task, hands_at}
use Rattle.tdb_openers.specs.States.{state_of, WorldStands, FileStands}
use Rattle.tdb_openers.specs.Cursors.{is_stood, cursor_at}
use Rattle.tdb_openers.specs.Laws.{IsPut}
use Rattle.tdb_openers.specs.Worlds.{World, state_in, Stands, BytesStand, IsNumber}
use Rattle.tdb_openers.specs.Died.{died, HasDied, CanDie, MayDieIn}
use Rattle.tdb_openers.proofs.Joining.Arriving.{nothing_well, no_walk_stands, bare_apart, apart_bare}
use Rattle.tdb_openers.proofs.Joining.Opening.{nobody_holds}
use Rattle.tdb_openers.proofs.Joining.Putting.{by_number, put_numbered}
use Rattle.tdb_openers.proofs.Joining.Replacing.{hands_set, file_set}
use Rattle.tdb_openers.proofs.PlainTurns.Standing.{IsSet, put_set, world_set}
use Rattle.tdb_openers.proofs.Walks.StillWalks.{still_shift}
use Rattle.tdb_openers.proofs.Joining.Stood.{injected, some_off, stood_at, stood_by}

-- who may die holds no record: a command that would end a transaction is refused
mortal_job : (job : Job) → EndsTransaction (command_in job) → hands_of_job job ≡ []
mortal_job (Jobs.Refused command reply) ends = refl
mortal_job (Jobs.Plain d) ends = absurd ends
mortal_job (Jobs.Check checking) ends = refl
mortal_job (Jobs.Locking locking) ends = refl
mortal_job Jobs.Seqnum ends = refl
mortal_job (Jobs.Walk walking) ends = refl

mortal_hands : (t : Option Task) → MayDie (law_task t) → hands_of_task t ≡ []
mortal_hands None may = refl
mortal_hands (Some t) may = mortal_job t.job may

-- an opener that may die does so, in the words of the law
module _ (f : Form) (options : Options) (xs ys : List Opener) (ps qs : List Piece) (a : List ℕ) (who : ℕ) (x : Opener) (there : slice_get xs who ≡ Some x) (may : MayDie (law_task x.task)) (P : IsPut xs who died ys)
    (lost : (b : ℕ) → held qs (who + 1) b ≡ None) (kept : (o b : ℕ) → o ≢ who + 1 → held qs o b ≡ held ps o b) where
  set : IsSet xs who died ys
  set = put_set xs ys who died P

  holds_nothing : (b : ℕ) → table_of qs (who + 1) b ≡ 0
  holds_nothing b = ap strength (lost b)

  others_hold : (o b : ℕ) → o ≢ who → table_of qs (o + 1) b ≡ table_of ps (o + 1) b
  others_hold o b ne = ap strength (kept (o + 1) b (λ e. ne (omega (arith, e))))

  pub death_keeps_world : (size : ℕ) → WorldStands f options xs ps a size → WorldStands f options ys qs a size
  death_keeps_world size W =
      world_set f options xs ys ps qs a a size size who died W set
      (record {
        holds = λ b. holds_nothing b ∙ sym (nobody_holds f options b);
        others = others_hold;
        apart = λ o b ne. (let none = holds_nothing b in let same = others_hold o b ne in let room = W.sound.apart who o b (λ e. ne (sym e)) in omega (arith, none, same, room));
        numbered = λ b. ap strength (kept 0 b (λ e. absurd (omega (arith, e))) ∙ W.numbered b);
      })
      (record { stands = (nothing_well, tt, no_walk_stands f nothing_held (own_of options died) refl); busy_live = λ t e. absurd (cc e) })
      (le_refl size) (subst (λ n. n ≤ most_openers) (sym P.same_length) W.few) W.short

  -- it held no record of the free list
  same_hands : joined (length ys) (λ o. hands_at (slice_get ys o)) ≡ joined (length xs) (λ o. hands_at (slice_get xs o))
  same_hands = hands_set xs ys who died set P.same_length (sym (ap hands_at there ∙ mortal_hands x.task may))

  -- and its cursor stands on none
  still_stood : (off : ℕ) → is_stood (spots_of ys) off ≡ true → is_stood (spots_of xs) off ≡ true
  still_stood off stood =
      let s = stood_by ys off stood in
      elim (cases_eq s.place who) [
        | inl is ↦ absurd (let same : s.opener ≡ died = injected (sym s.there ∙ ap (slice_get ys) is ∙ P.there) in
            let off_chains : Past ≡ On s.chain off = sym (ap (λ (z : Opener). z.walk.cursor.place) same) ∙ s.on in
            cc off_chains)
        | inr ne ↦ stood_at xs s.place s.opener s.chain off (sym (P.others s.place ne) ∙ s.there) s.on (some_off (spots_of ys) off stood)
      ]

  pub death_keeps_file : FileStands f xs a → FileStands f ys a
  death_keeps_file F = file_set xs ys who died set f a F same_hands still_stood tt tt tt (λ o ne. (bare_apart (cursor_at (slice_get xs o)), apart_bare (cursor_at (slice_get xs o))))

  pub death_dies : x.live ≡ true → Dies f (state_of f options xs ps a) who (state_of f options ys qs a)
  death_dies live = record {
    live = ap (λ z. (own_at options z).live) there ∙ live;
    may_die = subst MayDie (sym (ap task_at there)) may;
    stay = record {
      file = refl;
      task = λ o ne. ap task_at (P.others o ne);
      own = λ o ne. ap (own_at options) (P.others o ne);
      spot = λ o ne. ap spot_at (P.others o ne);
      table = others_hold;
      walk = λ o ne. subst (λ p. Shift f (λ k. ⊥) (mark_of f (chains_in f a) (place_at (slice_get xs o))) (mark_of f (chains_in f a) p)) (sym (ap place_at (P.others o ne))) (still_shift f _ _);
      number = refl;
      image_number = λ o. refl;
      settled = refl;
    };
    nothing = record { task = ap task_at P.there; spot = ap spot_at P.there; table = holds_nothing };
    own = ap (own_at options) P.there ∙ sym (ap (λ z. closed (own_at options z)) there);
    joined = P.same_length;
    stale = sym (ap (λ z. leaves_open f (own_at options z) (task_at z)) there);
  }

-- the opener with a number, in whose place who has died is put, and whose locks are dropped
pub has_died : (w : World) (who : ℕ) (x d : Opener) (qs : List Piece) → IsNumber w who x → d ≡ died → ((b : ℕ) → held qs who b ≡ None) → ((o b : ℕ) → o ≢ who → held qs o b ≡ held w.table o b)
    → HasDied w who (record w { openers = slice_set w.openers (who - 1) d; table = qs })
has_died w who x d qs N is lost others = record {
  place = N.place;
  counted = N.counted;
  put = subst (λ y. IsPut w.openers N.place died (slice_set w.openers (who - 1) y)) (sym is) (put_numbered w.openers who N.place x died N.counted N.there);
  lost = lost;
  others = others;
  rest = refl;
}

-- so a world with an opener that dies stands as before
module _ (w v : World) (who : ℕ) (x : Opener) (F : CanDie w who x) (D : HasDied w who v) (img : List ℕ) where
  there : slice_get w.openers D.place ≡ Some x
  there = subst (λ p. slice_get w.openers p ≡ Some x) (let one = F.number.counted in let other = D.counted in omega (arith, one, other)) F.number.there

  lost : (b : ℕ) → held v.table (D.place + 1) b ≡ None
  lost b = subst (λ o. held v.table o b ≡ None) D.counted (D.lost b)

  kept : (o b : ℕ) → o ≢ D.place + 1 → held v.table o b ≡ held w.table o b
  kept o b ne = D.others o b (λ e. ne (e ∙ D.counted))

  abbrev with_openers : World → World
  with_openers z = record z { openers = v.openers; table = v.table }

  same_rest : v ≡ with_openers w
  same_rest = ap with_openers D.rest

  pub stands_died : (size : ℕ) → Stands w img size → Stands v img size
  stands_died size W = subst (λ z. Stands z img size) (sym same_rest) (death_keeps_world (form_in w.header) w.options w.openers v.openers w.table v.table img D.place x there F.may_die D.put lost kept size W)

  pub bytes_died : BytesStand w img → BytesStand v img
  bytes_died B = subst (λ z. BytesStand z img) (sym same_rest) (death_keeps_file (form_in w.header) w.options w.openers v.openers w.table v.table img D.place x there F.may_die D.put lost kept B)

  pub dies_died : Dies (form_in w.header) (state_in w img) (law_opener who) (state_in v img)
  dies_died =
      subst (λ z. Dies (form_in w.header) (state_in w img) (law_opener who) (state_in z img)) (sym same_rest)
      (subst (λ o. Dies (form_in w.header) (state_in w img) o (state_in (with_openers w) img)) (sym (by_number who D.place D.counted))
      (death_dies (form_in w.header) w.options w.openers v.openers w.table v.table img D.place x there F.may_die D.put lost kept F.live))

-- who isn't there may not
pub none_may : (w : World) (img : List ℕ) (who : ℕ) → slice_get w.openers (law_opener who) ≡ None → MayDieIn (state_in w img) (law_opener who) → ⊥
none_may w img who none M = never_true (ap (λ z. (own_at w.options z).live) (sym none) ∙ M.live)
