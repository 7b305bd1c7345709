-- What each part of the search asks of the one before it, from the ties of the arrays to the graph.
use Prim.Native.Nat.{ℕ, zero, suc, ◌/◌}
use mathlib.Core.Path.{◌≡◌, refl, sym, ap, ◌∙◌}
use mathlib.Core.List.{List}
use native.Mathlib.Omega.{arith}
use lib.ListN.{length, get_or, replicate, length-replicate}
use Rattle.sizes.proofs.Inside as Inside
use Rattle.helpers.proofs.Tied.{layout_of}
use Rattle.helpers.proofs.Graph.{length_arrived, length_found}
use Rattle.marks.proofs.TieArrivals.{rows_inside', firsts_below, arrived_tied}
use Rattle.marks.proofs.TieMade.{made-below}
use Rattle.marks.proofs.TieFound.{edges-inside, found_tied, is_found}
use Rattle.marks.proofs.find.Goals as goal

-- an array without a link
no_link : (n k : ℕ) → get_or (replicate n zero) k zero ≡ zero
no_link zero k = refl
no_link (suc n) zero = refl
no_link (suc n) (suc k) = no_link n k

-- its length
zeros : (n : ℕ) {xs : List ℕ} → xs ≡ replicate n zero → length xs ≡ n
zeros n e = ap length e ∙ length-replicate n zero

pub fill-requires : goal.fill-requires
fill-requires c = let P = c.requires in (omega (arith, P.4), Inside.rows_few _ P.0)

pub link-requires : goal.link-requires
link-requires c =
    let P = c.requires in
    let rows = Inside.rows_few _ P.0 in
    (omega (arith, P.4, zeros (length c.args.table.now / 16) P.5), omega (arith, P.4, rows), λ q. rw P.6 (no_link 128 q), λ r. rw P.5 (no_link (length c.args.table.now / 16) r))

pub find_arrivals-requires : goal.find_arrivals-requires
find_arrivals-requires c =
    let P = c.requires in
    let filled = rw P.1 at c.fill.ensures in
    (P.7, omega (arith, P.3), omega (arith, P.4), Inside.rows_few _ P.0, rows_inside' _ P.0 filled, firsts_below _ P.0 filled)

pub invariant_of-sites : goal.invariant_of-sites
unfolding layout_of
invariant_of-sites c =
    let P = c.requires in
    let filled = rw P.1 at c.fill.ensures in
    let come = c.find_arrivals.ensures ∙ arrived_tied _ P.0 filled in
    let befores = c.link.auto.before ∙ zeros _ P.5 in
    record { sized = (ap length come ∙ length_arrived _ _ ∙ sym befores, omega (arith, befores, Inside.rows_few _ P.0)); falls = c.link.ensures.1 }

pub search-requires : goal.search-requires
unfolding layout_of
search-requires c =
    let P = c.requires in
    let L = c.link.ensures in
    let filled = rw P.1 at c.fill.ensures in
    let linked = rw (c.fill.auto.entries ∙ P.4) at L.0 in
    let come = c.find_arrivals.ensures ∙ arrived_tied _ P.0 filled in (
      P.2,
      omega (arith, P.3),
      Inside.rows_few _ P.0,
      c.fill.auto.entries ∙ P.4,
      c.link.auto.before ∙ zeros _ P.5,
      λ q. omega (arith, L.2 q, P.4),
      edges-inside _ P.0 filled linked (c.link.auto.last ∙ zeros _ P.6) (c.link.auto.before ∙ zeros _ P.5) come,
      rw P.1 (made-below _ P.0 filled come),
    )

pub returns : goal.returns
unfolding layout_of
returns c =
    let P = c.requires in
    let L = c.link.ensures in
    let filled = rw P.1 at c.fill.ensures in
    let linked = rw (c.fill.auto.entries ∙ P.4) at L.0 in
    let come = c.find_arrivals.ensures ∙ arrived_tied _ P.0 filled in
    let seen = rw P.1 at c.search.ensures in
    let lasts = c.link.auto.last ∙ zeros _ P.6 in
    let befores = c.link.auto.before ∙ zeros _ P.5 in
    (is_found _ P.0 filled linked lasts befores come seen, ap length (seen ∙ found_tied _ P.0 filled linked lasts befores come) ∙ length_found _ _)
