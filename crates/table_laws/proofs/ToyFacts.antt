-- The tables of the toy train, up to 60 km/h: one value at 0 km/h, and one, the same or another, from 1 km/h on.
use Rattle.std.proofs.Common.{◌≡◌, ℕ, zero, suc, ◌^◌, ◌≤◌, ℤ, pos, neg_ℤ, ◌≤ℤ◌, List, ◌∷◌, replicate, arith}
use Rattle.std.proofs.lemmas.Int.{ints}
use Rattle.std.proofs.lemmas.List.{get_or-replicate, length-replicate}
use Rattle.run_rules.specs.Grids.{row, top_of}
use Rattle.run_rules.specs.Speeds.{squared}
use Rattle.table_laws.specs.Laws.{IsTable}

abbrev pub toy_rows : ℤ → ℤ → List ℤ
toy_rows first rest = first ∷ replicate 60 rest

pub top_of-toy : (rows : List ℤ) (first rest : ℤ) → rows ≡ toy_rows first rest → top_of rows ≡ 60
top_of-toy rows first rest e = rw e (omega (arith, length-replicate 60 rest))

row-toy_most : (first rest m : ℤ) → first ≤ℤ m → rest ≤ℤ m → (k : ℕ) → k ≤ 60 → row (toy_rows first rest) k ≤ℤ m
row-toy_most first rest m f r zero h = f
row-toy_most first rest m f r (suc k) h = rw (get_or-replicate 60 k rest (pos 0) (omega arith)) r

row-toy_least : (first rest m : ℤ) → m ≤ℤ first → m ≤ℤ rest → (k : ℕ) → k ≤ 60 → m ≤ℤ row (toy_rows first rest) k
row-toy_least first rest m f r zero h = f
row-toy_least first rest m f r (suc k) h = rw (get_or-replicate 60 k rest (pos 0) (omega arith)) r

-- what is at most both values is at most each
pub row-toy : (rows : List ℤ) (first rest m : ℤ) → rows ≡ toy_rows first rest → m ≤ℤ first → m ≤ℤ rest → (k : ℕ) → k ≤ top_of rows → m ≤ℤ row rows k
row-toy rows first rest m e f r k h = let t = top_of-toy rows first rest e in let l : k ≤ 60 = omega arith in rw e (row-toy_least first rest m f r k l)

pub IsTable-toy : (rows : List ℤ) (first rest : ℤ) → rows ≡ toy_rows first rest → pos 0 ≤ℤ first → first ≤ℤ pos (10 ^ 13) → pos 0 ≤ℤ rest → rest ≤ℤ pos (10 ^ 13) → IsTable rows
IsTable-toy rows first rest e fl fm rl rm =
    let t = top_of-toy rows first rest e in
    rw e (record {
      some = omega (arith, length-replicate 60 rest);
      few = omega (arith, length-replicate 60 rest);
      most = λ k h. row-toy_most first rest (pos (10 ^ 15)) (omega (arith, ints)) (omega (arith, ints)) k (omega (arith, length-replicate 60 rest));
      least = λ k h. row-toy_least first rest (neg_ℤ (pos (10 ^ 15))) (omega (arith, ints)) (omega (arith, ints)) k (omega (arith, length-replicate 60 rest));
    })

-- the square of its top speed
pub squared-toy : (kmh u : ℕ) → kmh ≡ 60 → u ≤ 36000000 → u ≤ squared kmh
unfolding squared
squared-toy kmh u e h = rw e h
