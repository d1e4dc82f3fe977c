-- An image that is laid out in some chains and some free list is laid out in its own; and what follows of its bytes.
use Rattle.std.proofs.Common.{◌≡◌, ℕ, ◌<◌, List, ◌++◌, sym, ◌∙◌, ap, subst, arith}
use Rattle.tdb_words.specs.Word.{word}
use Rattle.tdb_space.specs.Form.{Form, chain_head, free_head}
use Rattle.tdb_space.specs.Record.{IsChained, IsFree}
use Rattle.tdb_space.specs.Chain.{Linked, chain_of, free_of}
use Rattle.tdb_space.specs.Pairs.{joined, pairs, order_of}
use Rattle.tdb_space.specs.Extents.{HandPair, times, extents, area, all_extents, hand_extents}
use Rattle.tdb_space.specs.Accepted.{AllFiled, KeysDiffer, LaidOut, AcceptWith, IsFiled}
use Rattle.tdb_space.proofs.Chain.Walks.{walk_meets}
use Rattle.tdb_space.proofs.Extents.Counts.{joined_same}

-- the computed chains and the computed free list are those in which the image is laid out
pub chains_met : (f : Form) (img : List ℕ) (chain : ℕ → List ℕ) (free : List ℕ) (hands : List HandPair) → LaidOut f img chain free hands → (j : ℕ) → j < f.chains → chain_of f img j ≡ chain j
chains_met f img chain free hands l j low = walk_meets f IsChained img (word f.order img (chain_head j)) (chain j) (l.chains j low)

pub free_met : (f : Form) (img : List ℕ) (chain : ℕ → List ℕ) (free : List ℕ) (hands : List HandPair) → LaidOut f img chain free hands → free_of f img ≡ free
free_met f img chain free hands l = walk_meets f IsFree img (word f.order img free_head) free l.frees

-- so it is accepted
pub accepted : (f : Form) (img : List ℕ) (chain : ℕ → List ℕ) (free : List ℕ) (hands : List HandPair) → LaidOut f img chain free hands → AcceptWith f img hands
accepted f img chain free hands l =
    let chains : (j : ℕ) → j < f.chains → chain_of f img j ≡ chain j = chains_met f img chain free hands l in
    let frees : free_of f img ≡ free = free_met f img chain free hands l in
    let joins : joined f.chains (λ j. extents f.order img (chain_of f img j)) ≡ joined f.chains (λ j. extents f.order img (chain j)) = joined_same f.chains (λ j. extents f.order img (chain_of f img j)) (λ j. extents f.order img (chain j)) (λ j low. ap (extents f.order img) (chains j low)) in
    let same : all_extents f img (chain_of f img) (free_of f img) hands ≡ all_extents f img chain free hands = λ i. joins i ++ extents f.order img (frees i) ++ area f.order img ++ hand_extents hands in
    record {
      header = l.header;
      form = l.form;
      some = l.some;
      sized = l.sized;
      long = l.long;
      area_ok = l.area_ok;
      shut = l.shut;
      chains = λ j low. subst (Linked f IsChained img (word f.order img (chain_head j))) (sym (chains j low)) (l.chains j low);
      frees = subst (Linked f IsFree img (word f.order img free_head)) (sym frees) l.frees;
      filed = λ j low. subst (AllFiled f img j) (sym (chains j low)) (l.filed j low);
      keys = λ j low. subst (KeysDiffer f img) (sym (chains j low)) (l.keys j low);
      held = l.held;
      apart = λ i. (let e = ap (λ es. times es i) same in omega (arith, e, l.apart i));
      stray = λ i above below none. l.stray i above below (sym (ap (λ es. times es i) same) ∙ none);
    }

-- its order is that of the pairs of the chains in which it is laid out
pub order_met : (f : Form) (img : List ℕ) (chain : ℕ → List ℕ) (free : List ℕ) (hands : List HandPair) → LaidOut f img chain free hands → order_of f img ≡ joined f.chains (λ j. pairs f.order img (chain j))
order_met f img chain free hands l =
    joined_same f.chains (λ j. pairs f.order img (chain_of f img j)) (λ j. pairs f.order img (chain j)) (λ j low. ap (pairs f.order img) (chains_met f img chain free hands l j low))

-- an accepted image has its chains, in which all is filed
pub accepted_filed : (f : Form) (img : List ℕ) (hands : List HandPair) → AcceptWith f img hands → IsFiled f img
accepted_filed f img hands a = record { some = a.some; chains = a.chains; filed = a.filed }
