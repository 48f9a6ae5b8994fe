-- Lines that the checker prints. Assumes nothing.
use Rattle.std.specs.Prelude.{◌≡◌, refl, [], ◌∷◌}
use Rattle.decimal.specs.Digits.{digits, padded}
use Rattle.phrases.specs.Ascii.{codes}
use Rattle.cells.specs.Lines.{ended}
use Rattle.cells.specs.Cells.{joined}
use Rattle.numerals.specs.Written.{pointed}
use Rattle.columns.specs.Columns.{is_unit}
use Rattle.unpacked.specs.Unpacked.{unit_word, field_text, field_texts, row_line, heading, headings, note_line, row_lines_to, kind_lines, lists_lines, lists_text}

-- a stock row of land, and one of trees: by the unit the rate has two decimals or four, and the amount two or none
land-row : row_line 2 (4 ∷ 0 ∷ 250 ∷ 1200 ∷ 500 ∷ []) ≡ codes "stock,4,land,2.50,12.00,0.500"
unfolding digits padded pointed joined is_unit unit_word field_text field_texts
land-row = refl

trees-row : row_line 2 (5 ∷ 1 ∷ 25 ∷ 12 ∷ 500 ∷ []) ≡ codes "stock,5,trees,0.0025,12,0.500"
unfolding digits padded pointed joined is_unit unit_word field_text field_texts
trees-row = refl

conversion-row : row_line 1 (7 ∷ 200 ∷ 1500 ∷ 100 ∷ 300 ∷ 900 ∷ 500 ∷ 200 ∷ 900 ∷ 500 ∷ 200 ∷ 1500 ∷ 100 ∷ 400 ∷ 500 ∷ [])
    ≡ codes "conversion,7,2.00,150.0,10.0,0.300,0.900,0.500,0.200,0.900,0.500,2.00,150.0,10.0,0.400,0.500"
unfolding digits padded pointed joined is_unit unit_word field_text field_texts
conversion-row = refl

-- the notes of two kinds
stock-note : note_line 2 ≡ codes "# stock,id,unit_code (land or trees),rate (t/ha or kt per 1000 trees),amount (kha or 1000 trees),carbon_fraction"
unfolding note_line headings heading joined
stock-note = refl

soil-note : note_line 7 ≡ codes "# soil,id,land_system,soil_type,area_now (Mha),area_then (Mha),native (t/ha),base,tillage,input"
unfolding note_line headings heading joined
soil-note = refl

-- a text: two harvest rows, the parameters, and no lines of the kinds without rows
small-text : lists_text 1 ([] ∷ [] ∷ (1 ∷ 10 ∷ 500 ∷ 0 ∷ 25 ∷ 2 ∷ 5 ∷ 450 ∷ 1 ∷ 0 ∷ []) ∷ (10 ∷ 12 ∷ 60 ∷ 10 ∷ 7 ∷ 121 ∷ []) ∷ [])
    ≡ codes "edition,1\n# harvest,id,F (1000 m3),G (t/m3),I (kt),J (kt)\nharvest,1,1.0,0.500,0.0,2.5\nharvest,2,0.5,0.450,0.1,0.0\n# parameters,N,CH4,CO,N/C,N2O,NOx\nparameters,0.010,0.012,0.060,0.010,0.007,0.121\n"
unfolding digits padded pointed joined ended is_unit unit_word field_text field_texts note_line headings heading row_lines_to kind_lines lists_lines lists_text
small-text = refl
