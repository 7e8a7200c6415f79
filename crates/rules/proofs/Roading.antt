-- What the tests of the rule of roads say, and in which rows they can be true. Assumes nothing.
use Rattle.std.proofs.Common.{◌≡◌, ℕ, ◌+◌, ◌-◌, ◌*◌, ◌<◌, ◌≤◌, Bool, not, ◌&&◌, eqb, ltb, leb, Decides, List, get_or, inl, inr, min, map, arith}
use Rattle.std.specs.declared.ops.Range.{Range}
use Rattle.std.specs.List.{list_any, range_with_len}
use Rattle.std.proofs.lemmas.Bool.{le-leb, leb-true}
use Rattle.std.proofs.lemmas.Bool.Decides.{Decides-and, Decides-eqb, Decides-like, Decides-ltb, Decides-not, Decides-or}
use Rattle.rules.specs.Places.{places}
use Rattle.rules.specs.Roads.{FromTo, OnPath, Road, RoadsStand, apart, centre, column, from_to, has_road, linked, nearer, on_path, road_to, row, site}
use Rattle.rules.proofs.Testing.{answers_stand, found_in, some_place}

-- ---- what the tests of places say

le_is : (a b : ℕ) → Decides (leb a b) (a ≤ b)
le_is a b = (leb-true a b, le-leb a b)

from_to_is : (a b c : ℕ) → Decides (from_to a b c) (FromTo a b c)
from_to_is a b c =
    Decides-or
    (leb a c && leb c b)
    (leb b c && leb c a)
    (Decides-and (leb a c) (leb c b) (le_is a c) (le_is c b))
    (Decides-and (leb b c) (leb c a) (le_is b c) (le_is c a))

on_path_is : (a b c : ℕ) → Decides (on_path a b c) (OnPath a b c)
on_path_is a b c =
    let along_row = from_to (column a) (column b) (column c) in
    let along_column = from_to (row a) (row b) (row c) in
    Decides-or
    (eqb (row c) (row a) && along_row)
    (eqb (column c) (column b) && along_column)
    (Decides-and (eqb (row c) (row a)) along_row (Decides-eqb (row c) (row a)) (from_to_is (column a) (column b) (column c)))
    (Decides-and (eqb (column c) (column b)) along_column (Decides-eqb (column c) (column b)) (from_to_is (row a) (row b) (row c)))

module _ (hs : List ℕ) where
  -- what is a settlement, where i is a place
  abbrev Not0 : ℕ → Type 0
  Not0 i = get_or hs i 0 ≡ 0 → ⊥

  site_is : (i : ℕ) → Decides (site hs i) (Not0 i)
  site_is i = Decides-not (eqb (get_or hs i 0) 0) (Decides-eqb (get_or hs i 0) 0)

  -- ---- settlements nearer to both

  module _ (a b : ℕ) where
    abbrev Nearer : ℕ → Type 0
    Nearer c = Not0 c × ((apart c a < apart a b) × (apart c b < apart a b))

    nearer_is : (c : ℕ) → Decides (nearer hs a b c) (Nearer c)
    nearer_is c =
        let to_a = ltb (apart c a) (apart a b) in
        let to_b = ltb (apart c b) (apart a b) in
        Decides-and (site hs c) (to_a && to_b) (site_is c) (Decides-and to_a to_b (Decides-ltb (apart c a) (apart a b)) (Decides-ltb (apart c b) (apart a b)))

    -- such a one lies in few rows
    nearer_rows : (c : ℕ) → Nearer c → (((row b + 1) - apart a b) * 23 ≤ c) × (c < (row a + apart a b) * 23)
    nearer_rows c (_, (p, q)) = (omega arith, omega arith)

    -- ---- linked pairs

    abbrev Crowded : Type 0
    Crowded = (c : ℕ) × (c < 529) × Nearer c

    abbrev Close : Type 0
    Close = (a < b) × ((apart a b ≤ 6) × (Crowded → ⊥))

    linked_is : Decides (linked hs a b) Close
    linked_is =
        let crowded = list_any (nearer hs a b) (places 529) in
        let close = leb (apart a b) 6 in
        Decides-and
        (ltb a b)
        (close && not crowded)
        (Decides-ltb a b)
        (Decides-and close (not crowded) (le_is (apart a b) 6) (Decides-not crowded (some_place (nearer hs a b) Nearer nearer_is 529)))

    -- ---- roads

    abbrev RoadTo : Type 0
    RoadTo = Not0 b × (OnPath a b centre × Close)

    road_to_is : Decides (road_to hs a b) RoadTo
    road_to_is =
        Decides-and
        (site hs b)
        (on_path a b centre && linked hs a b)
        (site_is b)
        (Decides-and (on_path a b centre) (linked hs a b) (on_path_is a b centre) linked_is)

    -- a path from the earlier to the later that has the centre begins in its row or above, and ends in its row or below
    road_to_rows : RoadTo → (5 * 23 ≤ a) × (a < 12 * 23) × (11 * 23 ≤ b) × (b < 18 * 23)
    road_to_rows (_, (inl (e, f), (before, (near, _)))) = (omega arith, omega arith, omega arith, omega arith)
    road_to_rows (_, (inr (e, inl f), (before, (near, _)))) = (omega arith, omega arith, omega arith, omega arith)
    road_to_rows (_, (inr (e, inr f), (before, (near, _)))) = (omega arith, omega arith, omega arith, omega arith)

  module _ (a : ℕ) where
    abbrev pub road_from : Bool
    road_from = site hs a && list_any (road_to hs a) (places 529)

    abbrev RoadFrom : Type 0
    RoadFrom = Not0 a × ((b : ℕ) × (b < 529) × RoadTo a b)

    road_from_is : Decides road_from RoadFrom
    road_from_is =
        Decides-and (site hs a) (list_any (road_to hs a) (places 529)) (site_is a) (some_place (road_to hs a) (RoadTo a) (road_to_is a) 529)

  has_road_is : Decides (has_road hs) (Road hs)
  has_road_is =
      Decides-like
      _
      (λ (a, a_in, (a_not_0, (b, b_in, (b_not_0, (path, (before, (near, alone))))))). (
        a,
        b,
        record {
          first = record { within = a_in; not_0 = a_not_0 };
          second = record { within = b_in; not_0 = b_not_0 };
          earlier = before;
          near = near;
          alone = λ c s p q. alone (c, s.within, (s.not_0, (p, q)));
        },
        path,
      ))
      (λ (a, b, l, path). (
        a,
        l.first.within,
        (l.first.not_0, (b, l.second.within, (l.second.not_0, (path, (l.earlier, (l.near, λ (c, h, (s, (p, q))). l.alone c (record { within = h; not_0 = s }) p q)))))),
      ))
      (some_place road_from RoadFrom road_from_is 529)

  -- ---- a search of the rows that matter finds what there is

  module _ (s : Range ℕ) (from to : ℕ) (e : s ≡ record { start = from; end = to }) where
    abbrev Finds : (ℕ → Bool) → Type 0
    Finds p = list_any p (map (λ i. i) (range_with_len s.start (s.end - s.start))) ≡ list_any p (places 529)

    pub crowded_in : (a b : ℕ) → from ≤ ((row b + 1) - apart a b) * 23 → min ((row a + apart a b) * 23) 529 ≤ to → to ≤ 529 → Finds (nearer hs a b)
    crowded_in a b above below fits =
        found_in (nearer hs a b) (Nearer a b) (nearer_is a b) s from to 529 e fits (λ c h n. let r = nearer_rows a b c n in (omega arith, omega arith))

    pub road_to_in : (a : ℕ) → from ≤ 11 * 23 → 18 * 23 ≤ to → to ≤ 529 → Finds (road_to hs a)
    road_to_in a above below fits =
        found_in (road_to hs a) (RoadTo a) (road_to_is a) s from to 529 e fits (λ b h t. let r = road_to_rows a b t in (omega arith, omega arith))

    pub road_from_in : from ≤ 5 * 23 → 12 * 23 ≤ to → to ≤ 529 → Finds road_from
    road_from_in above below fits =
        found_in road_from RoadFrom road_from_is s from to 529 e fits (λ a h (_, (b, _, t)). let r = road_to_rows a b t in (omega arith, omega arith))

pub roads_stand : RoadsStand
roads_stand hs = answers_stand (has_road hs) (has_road_is hs)
