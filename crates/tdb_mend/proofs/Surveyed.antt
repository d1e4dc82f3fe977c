-- What the parts of a survey say of the image.
use Rattle.std.proofs.Common.{◌≡◌, ℕ, List, [], ◌++◌, append-nil, sym, ◌∙◌, ap, subst}
use Rattle.tdb_words.specs.Word.{word}
use Rattle.tdb_words.specs.declared.what.What.TheVariants.{Overlap}
use Rattle.tdb_space.specs.Form.{Form, form_of, data_start, free_head}
use Rattle.tdb_space.specs.Chain.{free_of}
use Rattle.tdb_space.specs.Record.{IsFree}
use Rattle.tdb_space.specs.Extents.{Extent as Held, area, extents}
use Rattle.tdb_space.specs.FirstFault.{Fault, HeadsSound, ListsSound, FirstOverlap, free_list, Sound, extents_of}
use Rattle.tdb_space.proofs.Chain.Walks.{walk_meets}
use Rattle.tdb_space.proofs.FirstFault.Passed.{sound_listed}
use Rattle.tdb_check.specs.declared.extent.Extent.{Extent}
use Rattle.tdb_check.specs.Chains.{Shows, ChainsFollowed, chain_extents}
use Rattle.tdb_check.specs.Extent.{extents_seen}
use Rattle.tdb_check.specs.Followed.{FollowedTo}
use Rattle.tdb_check.specs.Lists.{listed_extents}
use Rattle.tdb_check.specs.Stray.{NoOverlapAmong, FirstOverlapAmong, FirstAmong, shared}
use Rattle.tdb_check.proofs.Among.{shows_more, shown_whole, shown_first}
use Rattle.tdb_check.proofs.Still.{still_then}
use Rattle.tdb_mend.specs.Counting.{ListsShown, strays_among}
use Rattle.tdb_mend.specs.Mended.{IsSoundButStrays, IsFirstButStrays, strays}
use Rattle.tdb_mend.proofs.Faults.{overlap_but}

-- what both walks put down
pub lists_shown : (f : Form) (img : List ℕ) (old mid last : List Extent) (live : ℕ) {f2 : Form} {img2 : List ℕ} → old ≡ [] → ChainsFollowed f img old mid live → f2 ≡ f → img2 ≡ img → FollowedTo f2 free_list img2 free_head mid last → ListsShown f img last
lists_shown f img old mid last live none walked form image freed =
    let h : ChainsFollowed f img [] mid live = subst (λ es. ChainsFollowed f img es mid live) none walked in
    let (xs, end, passed, ends, seen) = still_then (λ g i. FollowedTo g free_list i free_head mid last) form image freed in
    let frees : Sound f free_list img free_head = (xs, end, passed, ends) in
    let met : free_of f img ≡ xs = walk_meets f IsFree img (word f.order img free_head) xs (sound_listed f free_list img free_head frees).linked in
    let all : extents_seen last ≡ extents_seen mid ++ extents f.order img (free_of f img) = seen ∙ ap (λ ys. extents_seen mid ++ extents f.order img ys) (sym met) in
    record {
      chains = h.sound;
      frees = frees;
      shows = subst (λ es. Shows es (listed_extents f img)) (sym all) (shows_more (extents_seen mid) (chain_extents f img) (extents f.order img (free_of f img)) h.shows);
    }

module _ (img : List ℕ) (es : List Extent) (seen : List Held) (heads : HeadsSound img) (h : ListsShown (form_of img) img es) (is : seen ≡ extents_seen es ++ area (form_of img).order img) where
  lists : ListsSound img
  lists = record { heads = heads; chains = h.chains; frees = h.frees }

  -- the extents of the lists and of the undo area show which bytes of the image are held
  all_shown : Shows seen (extents_of img)
  all_shown =
      subst (λ xs. Shows xs (extents_of img)) (sym is)
      (subst (Shows (extents_seen es ++ area (form_of img).order img)) (sym (append-nil (listed_extents (form_of img) img ++ area (form_of img).order img)))
      (shows_more (extents_seen es) (listed_extents (form_of img) img) (area (form_of img).order img) h.shows))

  of_shared : (at : ℕ) → FirstAmong (extents_of img) (data_start (form_of img)) img (Overlap, at) → FirstOverlap img at
  of_shared _ (shared at f) = f

  -- two share a byte
  pub surveyed_first : (e : Fault) → e.0 ≡ Overlap → FirstOverlapAmong seen e.1 → IsFirstButStrays img e
  surveyed_first e name f =
      let pair : (Overlap, e.1) ≡ e = λ j. (sym name j, e.1) in
      subst (IsFirstButStrays img) pair
      (overlap_but img e.1 lists (of_shared e.1 (shown_first seen (extents_of img) (data_start (form_of img)) img (Overlap, e.1) all_shown (shared e.1 f))))

  -- none do
  pub surveyed : (n : ℕ) → NoOverlapAmong seen → n ≡ strays_among seen (data_start (form_of img)) img → IsSoundButStrays img × (n ≡ strays img)
  surveyed n apart count =
      let same = shown_whole seen (extents_of img) all_shown apart in (
        record { lists = lists; apart = subst NoOverlapAmong same apart },
        count ∙ ap (λ xs. strays_among xs (data_start (form_of img)) img) same,
      )
