-- A plate is read as it was written. Assumes nothing.
use Rattle.std.proofs.Common.{◌≡◌, ℕ, ◌+◌, ◌*◌, true, cond, ◌&&◌, eqb, List, [], ◌∷◌, ◌++◌, map, length, get_or, ℤ, pos, sym, refl, ap, ◌∙◌, ap₂, append_assoc, append-nil, map-id, arith, length-append, get_or-append-add}
use mathlib.Core.List.{flat_map}
use lib.Signed.{le_z}
use Rattle.std.specs.List.{range_with_len}
use Rattle.exact.specs.Lists.{every}
use Rattle.std.proofs.lemmas.List.Folds.{list_all-map}
use Rattle.exact.proofs.Members.{every_in}
use Rattle.rules.specs.declared.Edge.{Edge}
use Rattle.rules.specs.declared.Triangle.{Triangle}
use Rattle.rules.specs.declared.OutlineEdge.{OutlineEdge}
use Rattle.rules.specs.declared.OutlineEdge.TheVariants.{Closed, Held}
use Rattle.rules.specs.Calls.{ReadAsWritten}
use Rattle.rules.specs.Limits.{marked, all_marked}
use Rattle.rules.specs.Numbers.{number_at, natural, point_at, triangle_at, outline_at, triangle_start, outline_start}
use Rattle.rules.specs.Plates.{Plate}
use Rattle.rules.specs.Written.{written, written_triangle, written_edge}

-- the number c places behind those of pre
there : (pre ys : List ℤ) (n c : ℕ) → n ≡ length pre + c → number_at (pre ++ ys) n ≡ get_or ys c (pos 0)
there pre ys n c e = ap (λ k. get_or (pre ++ ys) k (pos 0)) e ∙ get_or-append-add pre ys c (pos 0)

triangle_read : (pre post : List ℤ) (t : Triangle) (i : ℕ) → triangle_start i ≡ length pre → triangle_at (pre ++ (written_triangle t ++ post)) i ≡ t
unfolding triangle_at point_at
triangle_read pre post t i e =
    let at = triangle_start i in
    let read = there pre (written_triangle t ++ post) in
    let ax : _ ≡ t.a.x = read at 0 (omega arith) in
    let ay : _ ≡ t.a.y = read (at + 1) 1 (omega arith) in
    let bx : _ ≡ t.b.x = read (at + 2) 2 (omega arith) in
    let by : _ ≡ t.b.y = read (at + 2 + 1) 3 (omega arith) in
    let cx : _ ≡ t.c.x = read (at + 4) 4 (omega arith) in
    let cy : _ ≡ t.c.y = read (at + 4 + 1) 5 (omega arith) in
    let k : _ ≡ pos t.k = read (at + 6) 6 (omega arith) in
    λ j. record { a = record { x = ax j; y = ay j }; b = record { x = bx j; y = by j }; c = record { x = cx j; y = cy j }; k = ap natural k j }

-- the seven numbers of an outline edge
abbrev seven : ℤ → Edge → ℤ → ℤ → List ℤ
seven kind e g h = kind ∷ e.from.x ∷ e.from.y ∷ e.to.x ∷ e.to.y ∷ g ∷ h ∷ []

seven_read : (pre post : List ℤ) (kind : ℤ) (e : Edge) (g h : ℤ) (i : ℕ) → outline_start (pre ++ (seven kind e g h ++ post)) i ≡ length pre →
    outline_at (pre ++ (seven kind e g h ++ post)) i ≡ cond (eqb (natural kind) 1) (Held e g h) (Closed e)
unfolding outline_at point_at
seven_read pre post kind e g h i begins =
    let at = outline_start (pre ++ (seven kind e g h ++ post)) i in
    let read = there pre (seven kind e g h ++ post) in
    let k : _ ≡ kind = read at 0 (omega arith) in
    let px : _ ≡ e.from.x = read (at + 1) 1 (omega arith) in
    let py : _ ≡ e.from.y = read (at + 1 + 1) 2 (omega arith) in
    let qx : _ ≡ e.to.x = read (at + 3) 3 (omega arith) in
    let qy : _ ≡ e.to.y = read (at + 3 + 1) 4 (omega arith) in
    let g' : _ ≡ g = read (at + 5) 5 (omega arith) in
    let h' : _ ≡ h = read (at + 6) 6 (omega arith) in
    let edge : _ ≡ e = λ j. record { from = record { x = px j; y = py j }; to = record { x = qx j; y = qy j } } in
    λ j. cond (eqb (natural (k j)) 1) (Held (edge j) (g' j) (h' j)) (Closed (edge j))

outline_read : (pre post : List ℤ) (b : OutlineEdge) (i : ℕ) → outline_start (pre ++ (written_edge b ++ post)) i ≡ length pre → outline_at (pre ++ (written_edge b ++ post)) i ≡ b
outline_read pre post b i begins = grind (arith, seven_read)

-- ---- rows of seven numbers each, written one behind the other and read one by one
module _ {X Y : Type 0} (row : X → List ℤ) (seven-long : (x : X) → length (row x) ≡ 7) (zs : List ℤ) (at : ℕ → Y) (is : X → Y) (start : ℕ)
    (read : (pre post : List ℤ) (x : X) (i : ℕ) → zs ≡ pre ++ (row x ++ post) → start + 7 * i ≡ length pre → at i ≡ is x) where
  rows_read : (pre post : List ℤ) (xs : List X) (i : ℕ) → zs ≡ pre ++ (flat_map row xs ++ post) → start + 7 * i ≡ length pre → map at (range_with_len i (length xs)) ≡ map is xs
  unfolding flat_map
  rows_read pre post [] i whole begins = refl
  rows_read pre post (x ∷ xs) i whole begins =
      let rest = flat_map row xs ++ post in
      let here : zs ≡ pre ++ (row x ++ rest) = whole ∙ ap (λ ys. pre ++ ys) (append_assoc (row x) (flat_map row xs) post) in
      let long = length-append pre (row x) in
      let seven = seven-long x in
      ap₂ ◌∷◌ (read pre rest x i here begins) (rows_read (pre ++ row x) post xs (i + 1) (here ∙ sym (append_assoc pre (row x) rest)) (omega arith))

rows_long : {X : Type 0} (row : X → List ℤ) → ((x : X) → length (row x) ≡ 7) → (xs : List X) → length (flat_map row xs) ≡ 7 * length xs
unfolding flat_map
rows_long row seven-long [] = refl
rows_long row seven-long (x ∷ xs) =
    let both = length-append (row x) (flat_map row xs) in
    let rest = rows_long row seven-long xs in
    omega arith

edge_long : (b : OutlineEdge) → length (written_edge b) ≡ 7
edge_long b = grind arith

-- ---- a plate, written
module _ (m : Plate) where
  head : List ℤ
  head = pos (length m.triangles) ∷ pos (length m.outline) ∷ []

  triangles_read : map (triangle_at (written m)) (range_with_len 0 (length m.triangles)) ≡ map (λ t. t) m.triangles
  unfolding written head
  triangles_read =
      rows_read written_triangle (λ t. refl) (written m) (triangle_at (written m)) (λ t. t) 2 (λ pre post t i whole begins. ap (λ w. triangle_at w i) whole ∙ triangle_read pre post t i begins)
      head (flat_map written_edge m.outline) m.triangles 0 refl refl

  -- whatever is read of an outline edge
  pub edges_read : {Y : Type 0} (at : List ℤ → ℕ → Y) (is : OutlineEdge → Y) →
      ((pre post : List ℤ) (b : OutlineEdge) (i : ℕ) → outline_start (pre ++ (written_edge b ++ post)) i ≡ length pre → at (pre ++ (written_edge b ++ post)) i ≡ is b) →
      map (at (written m)) (range_with_len 0 (length m.outline)) ≡ map is m.outline
  unfolding written head
  edges_read at is read =
      let zs = written m in
      let F = flat_map written_triangle m.triangles in
      let long = rows_long written_triangle (λ t. refl) m.triangles in
      rows_read written_edge edge_long zs (at zs) is (2 + 7 * length m.triangles)
      (λ pre post b i whole begins. ap (λ w. at w i) whole ∙ read pre post b i (ap (λ w. outline_start w i) (sym whole) ∙ (let start : outline_start zs i ≡ length pre = omega arith in start)))
      (head ++ F) [] m.outline 0 (ap (λ ys. head ++ (F ++ ys)) (sym (append-nil (flat_map written_edge m.outline)))) (omega arith)

  each_marked : (pre post : List ℤ) (b : OutlineEdge) (i : ℕ) → outline_start (pre ++ (written_edge b ++ post)) i ≡ length pre → marked (pre ++ (written_edge b ++ post)) i ≡ true
  unfolding marked
  each_marked pre post (Closed e) i begins =
      ap (λ kind. le_z (pos 0) kind && le_z kind (pos 1)) (there pre (written_edge (Closed e) ++ post) (outline_start (pre ++ (written_edge (Closed e) ++ post)) i) 0 (omega arith))
  each_marked pre post (Held e g h) i begins =
      ap (λ kind. le_z (pos 0) kind && le_z kind (pos 1)) (there pre (written_edge (Held e g h) ++ post) (outline_start (pre ++ (written_edge (Held e g h) ++ post)) i) 0 (omega arith))

  pub all_marked_lem : all_marked (written m) ≡ true
  unfolding written
  all_marked_lem =
      sym (list_all-map (λ t. t) (marked (written m)) (range_with_len 0 (length m.outline))) ∙ ap (every (λ t. t)) (edges_read marked (λ b. true) each_marked) ∙ list_all-map (λ t. t) (λ b. true) m.outline
      ∙ every_in (λ b. true) m.outline (λ b n. refl)

pub read_as_written : ReadAsWritten
unfolding written
read_as_written m =
    let triangles = triangles_read m ∙ map-id m.triangles in
    let outline = edges_read m outline_at (λ b. b) outline_read ∙ map-id m.outline in
    λ j. record { triangles = triangles j; outline = outline j }
