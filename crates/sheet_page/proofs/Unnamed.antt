-- What a page shows of a sheet is the same whatever its parts are named, but for these names and the links to them.
use Rattle.std.proofs.Common.{◌≡◌, ◌∙◌, refl, sym, ap, ℕ, ◌+◌, Bool, true, false, List, [], ◌∷◌, ◌++◌, map, length}
use Rattle.std.specs.Prelude.{if◌then◌else◌, codes}
use Rattle.std.specs.List.{flat_map}
use Rattle.std.specs.Str.{bytes_eq}
use Rattle.std.proofs.lemmas.List.{map-append}
use Rattle.page_tree.specs.Trees.{Attribute, Trees, Nothing, Text, Element, Void, followed}
use Rattle.sheet_reader.specs.Values.{SheetList}
use Rattle.sheet_minutes.specs.declared.entry.Entry.{Entry}
use Rattle.sheet_minutes.specs.declared.entry.Entry.TheVariants.{Round, Quota, LeftOver, Candidate}
use Rattle.sheet_minutes.specs.Rounds.{ends_round, row_at}
use Rattle.sheet_page.specs.declared.part_names.PartNames.{PartNames}
use Rattle.sheet_page.specs.Html.{elected_part, heading, part_at, round_part, round_parts, rounds_part, rounds_title}
use Rattle.sheet_page.specs.Html.{sheet_parts, words_explained}
use Rattle.sheet_page.specs.Links.{link_at, link_to, links, round_link}
use Rattle.sheet_page.specs.PageReading.{along, children, text_in, texts_along, unnamed, without_names}
use Rattle.sheet_page.specs.Picture.{full_of}
use Rattle.sheet_page.specs.Promised.{promise_part}
use Rattle.sheet_page.specs.RoundTable.{candidate_head, candidate_row, caption, cell_at, cells, first_head}
use Rattle.sheet_page.specs.RoundTable.{frame_attributes, head_row, left_row, line_head, quota_row, round_head}
use Rattle.sheet_page.specs.RoundTable.{rounds_table, table_body, table_frame, table_head}
use Rattle.sheet_page.specs.Told.{result_part}
use Rattle.sheet_page.specs.Trees.{at, each, el}
use Rattle.sheet_page.specs.Values.{all_places, name_at}

-- ---- a walk through trees without names

unnamed_children : (name : List ℕ) (trees : Trees) → map unnamed (children name trees) ≡ children name (unnamed trees)
unnamed_children name Nothing = refl
unnamed_children name (Text text behind) = unnamed_children name behind
unnamed_children name (Element other attributes within behind) =
    by (bytes_eq other name) (unnamed_children name behind)
  where
    by : (b : Bool) → map unnamed (children name behind) ≡ children name (unnamed behind)
        → map unnamed (if b then within ∷ children name behind else children name behind)
        ≡ (if b then unnamed within ∷ children name (unnamed behind) else children name (unnamed behind))
    by true more = ap (λ ts. unnamed within ∷ ts) more
    by false more = more
unnamed_children name (Void other attributes behind) = unnamed_children name behind

along_each :
    (path : List (List ℕ)) → ((trees : Trees) → map unnamed (along path trees) ≡ along path (unnamed trees))
    → (all : List Trees) → map unnamed (flat_map (along path) all) ≡ flat_map (along path) (map unnamed all)
along_each path is [] = refl
along_each path is (trees ∷ all) =
    map-append unnamed (along path trees) (flat_map (along path) all)
    ∙ ap (λ l. l ++ map unnamed (flat_map (along path) all)) (is trees)
    ∙ ap (λ l. along path (unnamed trees) ++ l) (along_each path is all)

unnamed_along : (path : List (List ℕ)) (trees : Trees) → map unnamed (along path trees) ≡ along path (unnamed trees)
unnamed_along [] trees = refl
unnamed_along (name ∷ path) trees =
    along_each path (unnamed_along path) (children name trees)
    ∙ ap (flat_map (along path)) (unnamed_children name trees)

unnamed_text : (trees : Trees) → text_in (unnamed trees) ≡ text_in trees
unnamed_text Nothing = refl
unnamed_text (Text text behind) = ap (λ l. text ++ l) (unnamed_text behind)
unnamed_text (Element name attributes within behind) =
    (λ j. unnamed_text within j ++ unnamed_text behind j)
unnamed_text (Void name attributes behind) = unnamed_text behind

unnamed_texts : (all : List Trees) → map text_in (map unnamed all) ≡ map text_in all
unnamed_texts [] = refl
unnamed_texts (trees ∷ all) = λ j. unnamed_text trees j ∷ unnamed_texts all j

-- ---- trees that are alike without names

pub along_alike :
    (path : List (List ℕ)) (trees others : Trees) → unnamed trees ≡ unnamed others
    → map unnamed (along path trees) ≡ map unnamed (along path others)
along_alike path trees others alike =
    unnamed_along path trees ∙ ap (along path) alike ∙ sym (unnamed_along path others)

pub texts_alike :
    (path : List (List ℕ)) (trees others : Trees) → unnamed trees ≡ unnamed others
    → texts_along path trees ≡ texts_along path others
texts_alike path trees others alike =
    sym (unnamed_texts (along path trees)) ∙ ap (map text_in) (along_alike path trees others alike)
    ∙ unnamed_texts (along path others)

unnamed_followed : (trees others : Trees) → unnamed (followed trees others) ≡ followed (unnamed trees) (unnamed others)
unnamed_followed Nothing others = refl
unnamed_followed (Text text behind) others = ap (λ t. Text text t) (unnamed_followed behind others)
unnamed_followed (Element name attributes within behind) others =
    ap (λ t. Element name (without_names attributes) (unnamed within) t) (unnamed_followed behind others)
unnamed_followed (Void name attributes behind) others =
    ap (λ t. Void name (without_names attributes) t) (unnamed_followed behind others)

-- trees one after another, each like its other
both :
    (a b c d : Trees) → unnamed a ≡ unnamed b → unnamed c ≡ unnamed d
    → unnamed (followed a c) ≡ unnamed (followed b d)
both a b c d first rest =
    unnamed_followed a c ∙ (λ j. followed (first j) (rest j)) ∙ sym (unnamed_followed b d)

-- the same trees before others
behind : (a c d : Trees) → unnamed c ≡ unnamed d → unnamed (followed a c) ≡ unnamed (followed a d)
behind a c d rest = both a a c d refl rest

-- and nothing after them
alone : (a b : Trees) → unnamed a ≡ unnamed b → unnamed (followed a Nothing) ≡ unnamed (followed b Nothing)
alone a b first = both a b Nothing Nothing first refl

each_alike :
    {X : Type 0} (f g : X → Trees) → ((x : X) → unnamed (f x) ≡ unnamed (g x)) → (items : List X)
    → unnamed (each f items) ≡ unnamed (each g items)
each_alike f g is [] = refl
each_alike f g is (x ∷ items) = both (f x) (g x) (each f items) (each g items) (is x) (each_alike f g is items)

if_alike :
    (b : Bool) (a c : Trees) → unnamed a ≡ unnamed c
    → unnamed (if b then a else Nothing) ≡ unnamed (if b then c else Nothing)
if_alike true a c is = is
if_alike false a c is = refl

inside :
    (name : List ℕ) (attributes : List Attribute) (a b : Trees) → unnamed a ≡ unnamed b
    → unnamed (Element name attributes a Nothing) ≡ unnamed (Element name attributes b Nothing)
inside name attributes a b is = ap (λ t. Element name (without_names attributes) t Nothing) is

-- ---- the parts of a sheet

module _ (names other : PartNames) (places : ℕ) (v : SheetList) where
  link_alike : (i : ℕ) → unnamed (link_at names v i) ≡ unnamed (link_at other v i)
  link_alike i =
      let round = (row_at v.rows i).round in
      if_alike (ends_round v.rows i) (round_link (link_to names i) round) (round_link (link_to other i) round) refl

  links_alike : unnamed (links names v) ≡ unnamed (links other v)
  links_alike =
      let all_links = λ (called : PartNames). each (link_at called v) (all_places (length v.rows)) in
      inside (codes "nav") (at (codes "aria-label") (codes "Rounds") ∷ [])
      (el (codes "ul") [] (all_links names ∷ [])) (el (codes "ul") [] (all_links other ∷ []))
      (inside (codes "ul") [] (followed (all_links names) Nothing) (followed (all_links other) Nothing)
      (alone (all_links names) (all_links other)
      (each_alike (link_at names v) (link_at other v) link_alike (all_places (length v.rows)))))

  cell_alike : (entry : Entry) (i : ℕ) → unnamed (cell_at names places v entry i) ≡ unnamed (cell_at other places v entry i)
  cell_alike Round i =
      let round = (row_at v.rows i).round in
      if_alike (ends_round v.rows i) (round_head (link_to names i) round) (round_head (link_to other i) round) refl
  cell_alike Quota i = refl
  cell_alike LeftOver i = refl
  cell_alike (Candidate p) i = refl

  -- a line of the table, after its head
  row_alike :
      (head : Trees) (entry : Entry)
      → unnamed (el (codes "tr") [] (head ∷ cells names places v entry ∷ []))
      ≡ unnamed (el (codes "tr") [] (head ∷ cells other places v entry ∷ []))
  row_alike head entry =
      let mine = cells names places v entry in
      let others = cells other places v entry in
      inside (codes "tr") [] (followed head (followed mine Nothing)) (followed head (followed others Nothing))
      (behind head (followed mine Nothing) (followed others Nothing)
      (alone mine others
      (each_alike (cell_at names places v entry) (cell_at other places v entry) (cell_alike entry) (all_places (length v.rows)))))

  body_alike : unnamed (table_body names places v) ≡ unnamed (table_body other places v)
  body_alike =
      let lines = λ (called : PartNames). each (candidate_row called places v) (all_places (length v.names)) in
      let rest = λ (called : PartNames). followed (left_row called places v) (followed (lines called) Nothing) in
      inside (codes "tbody") [] (followed (quota_row names places v) (rest names)) (followed (quota_row other places v) (rest other))
      (both (quota_row names places v) (quota_row other places v) (rest names) (rest other)
      (row_alike (line_head (codes "Quota")) Quota)
      (both (left_row names places v) (left_row other places v) (followed (lines names) Nothing) (followed (lines other) Nothing)
      (row_alike (line_head (codes "On no candidate")) LeftOver)
      (alone (lines names) (lines other)
      (each_alike (candidate_row names places v) (candidate_row other places v)
      (λ p. row_alike (candidate_head (name_at v p) (p + 1)) (Candidate p)) (all_places (length v.names))))))

  table_alike : unnamed (rounds_table names places v) ≡ unnamed (rounds_table other places v)
  table_alike =
      let rest = λ (called : PartNames). followed (table_head called places v) (followed (table_body called places v) Nothing) in
      inside (codes "table") [] (followed caption (rest names)) (followed caption (rest other))
      (behind caption (rest names) (rest other)
      (both (table_head names places v) (table_head other places v)
      (followed (table_body names places v) Nothing) (followed (table_body other places v) Nothing)
      (inside (codes "thead") [] (head_row names places v) (head_row other places v) (row_alike first_head Round))
      (alone (table_body names places v) (table_body other places v) body_alike)))

  rounds_alike : unnamed (rounds_part names places v) ≡ unnamed (rounds_part other places v)
  rounds_alike =
      let rest = λ (called : PartNames). followed (table_frame called places v) (followed words_explained Nothing) in
      inside (codes "section") [] (followed rounds_title (rest names)) (followed rounds_title (rest other))
      (behind rounds_title (rest names) (rest other)
      (both (table_frame names places v) (table_frame other places v)
      (followed words_explained Nothing) (followed words_explained Nothing)
      (inside (codes "div") frame_attributes (rounds_table names places v) (rounds_table other places v) table_alike) refl))

  round_parts_alike : (full : ℕ) → unnamed (round_parts names places v full) ≡ unnamed (round_parts other places v full)
  round_parts_alike full = each_alike (part_at names places v full) (part_at other places v full) here (all_places (length v.rows))
    where
      here : (i : ℕ) → unnamed (part_at names places v full i) ≡ unnamed (part_at other places v full i)
      here i = if_alike (ends_round v.rows i) (round_part names places v full i) (round_part other places v full i) refl

  pub parts_alike : unnamed (sheet_parts names places v) ≡ unnamed (sheet_parts other places v)
  parts_alike =
      let full = full_of v.rows in
      let last = λ (called : PartNames). followed (round_parts called places v full) Nothing in
      let rounds = λ (called : PartNames). followed (rounds_part called places v) (last called) in
      let promise = λ (called : PartNames). followed (promise_part places v) (rounds called) in
      let result = λ (called : PartNames). followed (result_part v) (promise called) in
      let elected = λ (called : PartNames). followed (elected_part v) (result called) in
      let linked = λ (called : PartNames). followed (links called v) (elected called) in
      behind (heading v) (linked names) (linked other)
      (both (links names v) (links other v) (elected names) (elected other) links_alike
      (behind (elected_part v) (result names) (result other)
      (behind (result_part v) (promise names) (promise other)
      (behind (promise_part places v) (rounds names) (rounds other)
      (both (rounds_part names places v) (rounds_part other places v) (last names) (last other) rounds_alike
      (alone (round_parts names places v full) (round_parts other places v full) (round_parts_alike full)))))))
