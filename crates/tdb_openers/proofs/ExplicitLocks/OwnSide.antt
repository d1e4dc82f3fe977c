-- An opener that has nothing but all records, which it holds for writing, is itself a side that shuts the others out.
use Rattle.std.proofs.Common.{◌≡◌, ◌≢◌, ℕ, List, slice_get, true, false, Some, refl, sym, ◌∙◌, ap, subst, arith}
use Rattle.tdb_space.specs.Form.{Form, form_in}
use Rattle.tdb_locks.specs.declared.kind.Kind.TheVariants.{Write}
use Rattle.tdb_law.specs.Openers.{nowhere}
use Rattle.tdb_law.specs.Held.{all_held}
use Rattle.tdb_law.specs.World.{State, IsSound}
use Rattle.tdb_law.proofs.Tests.{never_true}
use Rattle.tdb_law.specs.OneAside.Sides.{Past, Side, beside, StandsAside}
use Rattle.tdb_law.proofs.OneAside.Parted.{put_back}
use Rattle.tdb_commands.specs.InLaw.{law_opener}
use Rattle.tdb_openers.specs.declared.opener.Opener.{Opener}
use Rattle.tdb_openers.specs.declared.job.Task.{Task}
use Rattle.tdb_openers.specs.Openers.{all_of, own_at, spot_at, spot_by, task_at, law_task}
use Rattle.tdb_openers.specs.ShutOut.{ShutsOut, HoldsAll}
use Rattle.tdb_openers.specs.Worlds.{World, state_in, Stands, IsBusy}
use Rattle.tdb_openers.proofs.ExplicitLocks.Aside.{held_before}
use Rattle.tdb_openers.proofs.ExplicitLocks.Beside.{all_here, all_below}
use Rattle.tdb_openers.proofs.Joining.Closed.{found, named, bare_walk}
use Rattle.tdb_openers.proofs.Barred.ShutOut.{IsBarred}

-- a world of which nothing else is known
pub no_past : Past
no_past = record { settled = false; numbers = λ o. 0 }

-- the world is as sound, whatever the file adds to cursors
view_sound : (f : Form) (p q : State) → q.stale ≡ false → record p { mark = q.mark; view = q.view; stale = q.stale; settled = q.settled; image_number = q.image_number; file = q.file; number = q.number } ≡ q → IsSound f p → IsSound f q
view_sound f p q ready is S = subst (IsSound f) is (record {
  chains = S.chains;
  agrees = S.agrees;
  apart = S.apart;
  stands = S.stands;
  busy_there = S.busy_there;
  live_joined = S.live_joined;
  stale = λ was o c x k P. absurd (never_true (sym ready ∙ was));
})

module _ (w : World) (holder : ℕ) (H : HoldsAll w holder) (any : List ℕ) (size : ℕ) (W : Stands w any size) where
  abbrev l : ℕ
  l = law_opener holder

  abbrev p : State
  p = state_in w any

  there : slice_get w.openers l ≡ Some H.opener
  there = found w holder H.opener H.number H.bare

  -- what the plain state has of it
  abbrev pub own_side : Side
  own_side = record { here = l; table = p.table l; task = p.task l; own = p.own l; view = p.view l; mark = p.mark l; shuts = true; heads = λ b. false }

  abbrev q : State
  q = beside p no_past own_side

  stands_nowhere : p.spot l ≡ nowhere
  stands_nowhere = ap spot_at there ∙ ap (λ z. spot_by z.cursor) (bare_walk w holder H.opener H.number H.bare any size W)

  holds : (b : ℕ) → p.table l b ≡ all_held (all_of H.opener.held.all) b
  holds = held_before (form_in w.header) w.options w.openers w.table any size l H.opener W there H.bare

  aside : StandsAside p own_side
  aside = record {
    joined = W.sound.live_joined l (ap (λ z. (own_at w.options z).live) there ∙ H.bare.live);
    idle = ap task_at there ∙ ap law_task H.bare.idle;
    spot = stands_nowhere;
    records = λ b from. refl;
    below = λ b under. holds b ∙ all_below H.opener.held.all b (omega (arith, under));
    shuts = λ e b from upto. holds b ∙ (ap (λ o. all_held (all_of o) b) H.all ∙ all_here Write H.count b from upto);
  }

  same : record p { mark = q.mark; view = q.view; stale = q.stale; settled = q.settled; image_number = q.image_number; file = q.file; number = q.number } ≡ q
  same = sym (λ i. record q {
    table = put_back l (p.table l) p.table refl i;
    task = put_back l (p.task l) p.task refl i;
    own = put_back l (p.own l) p.own refl i;
    spot = put_back l nowhere p.spot stands_nowhere i;
  })

  shuts_out : ShutsOut w any no_past own_side holder
  shuts_out = record {
    counted = sym (named w holder H.opener H.number H.bare);
    shuts = refl;
    sound = view_sound (form_in w.header) p q refl same W.sound;
    aside = aside;
  }

-- so another opener is shut out by it
pub own_barred : {w : World} {holder who : ℕ} {x : Opener} {t : Task} {any : List ℕ} {size : ℕ} (H : HoldsAll w holder) (other : holder ≢ who) (B : IsBusy w who x t) (W : Stands w any size)
    → IsBarred w any no_past (own_side w holder H any size W) holder who x t any size
own_barred {w = w} {holder = holder} {any = any} {size = size} H other B W = record { busy = B; other = other; shuts = shuts_out w holder H any size W; stands = W }
