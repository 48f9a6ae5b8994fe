-- Of a text that packs (specs/Texts).
use Rattle.std.specs.Prelude.{ℕ, ◌≡◌, refl, List}
use Rattle.std.proofs.Common.{sym, ◌∙◌, arith}
use Rattle.form.proofs.Order.{clean-ruling}
use Rattle.handed.specs.Rows.{write_call}
use Rattle.texts.specs.Texts.{TextRead, rows, faulty, text_read}
use Rattle.packing.specs.Packing.{packed_by, pack_call}
use Rattle.textrips.proofs.Faults.{fault-known}
use Rattle.textrips.proofs.Packs.{Says, its_return, return-accepted, rooms_hold, packs_again}
use Rattle.door.specs.Texts.{pack_code}
use Rattle.promises.proofs.Demand1.{c_write_by_order}
use Rattle.promises.specs.Texts.{same_code, PackedTold}

module _ (text room size : List ℕ) where
  says : (t : TextRead) → text_read text ≡ t → pack_code (packed_by t room size) ≡ 0 → Says text room size
  says (rows e lengths area) q z = record {
    edition-said = e;
    lengths = lengths;
    area = area;
    said = q;
    called = clean-ruling ((c_write_by_order e area lengths room size).answered_by.0 (sym (same_code (write_call e area lengths room size)) ∙ z));
  }
  says (faulty f) q z = let k = (fault-known f.fault).0 in absurd (omega (arith, k, z))

  pub pack_told : pack_code (pack_call text room size) ≡ 0 → PackedTold text room size
  pack_told z =
      let w = says (text_read text) refl z in
      record {
        its_bytes = its_return text room size w;
        accepted = return-accepted text room size w;
        bytes = (rooms_hold text room size w).0;
        sized = (rooms_hold text room size w).1;
        again = packs_again text room size w;
      }
