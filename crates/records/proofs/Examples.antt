-- Examples of the formats, by computation.
use Rattle.std.specs.Prelude.{◌≡◌, ◌<◌, ◌-◌, ◌^◌, ℕ, true, false, List, pos, negsuc, [], ◌∷◌, refl, replicate, IsUtf8}
use Rattle.std.proofs.Common.{inl, inr, lit<, lit≤, sym, arith, w64}
use Rattle.std.proofs.lemmas.Int.{ints, to_z_pos}
use Rattle.std.proofs.lemmas.List.Elements.{All-nil, All-cons, All-replicate}
use Rattle.std.proofs.lemmas.Str.{is_utf8-from_IsUtf8}
use Rattle.std.specs.Str.{is_utf8, chars}
use lib.Utf8
use Rattle.values.specs.Datum.{int, text}
use Rattle.records.specs.declared.fault.RecordFault.TheVariants.{Bad, Float, Text}
use Rattle.records.specs.Varint.{GoesOn, IsVarint, EndsInside}
use Rattle.records.specs.Serial.{is_int, is_zero, is_one, is_text, is_ten}
use Rattle.records.specs.Record.{IsHeader, IsRecord, Breaks}
use Rattle.records.proofs.HeaderLemmas.{split_fits}

-- ---- varints

pub two_bytes : IsVarint (0x81 ∷ 0x00 ∷ []) (pos 128)
two_bytes = record {
  bits = 128;
  spelt = inl (record { front = 0x81 ∷ []; last = 0; parts = refl; at_most_eight = lit< tt; go_on = All-cons GoesOn 0x81 [] (lit≤ tt) (All-nil GoesOn); ends = lit< tt; number = refl });
  signed = refl;
}

pub padded : IsVarint (0x80 ∷ 0x01 ∷ []) (pos 1)
padded = record {
  bits = 1;
  spelt = inl (record { front = 0x80 ∷ []; last = 1; parts = refl; at_most_eight = lit< tt; go_on = All-cons GoesOn 0x80 [] (lit≤ tt) (All-nil GoesOn); ends = lit< tt; number = refl });
  signed = refl;
}

pub nine_bytes : IsVarint (replicate 9 0xff) (negsuc 0)
nine_bytes = record {
  bits = 2 ^ 64 - 1;
  spelt = inr (record { front = replicate 8 0xff; last = 0xff; parts = refl; eight = refl; go_on = All-replicate GoesOn 8 0xff (lit≤ tt); number = refl });
  signed = refl;
}

pub cut : EndsInside (0x81 ∷ [])
cut = record { go_on = All-cons GoesOn 0x81 [] (lit≤ tt) (All-nil GoesOn); short = lit< tt }

one_byte : (n : ℕ) → n < 128 → IsVarint (n ∷ []) (pos n)
one_byte n h = record {
  bits = n;
  spelt = inl (record { front = []; last = n; parts = refl; at_most_eight = lit< tt; go_on = All-nil GoesOn; ends = h; number = omega arith });
  signed = sym (to_z_pos w64 n (omega arith));
}

-- ---- records

-- headers of one and of two types, each of one byte
one_type : (s : ℕ) (bodies : List ℕ) → s < 128 → IsHeader (2 ∷ s ∷ bodies) (pos s ∷ []) bodies
one_type s bodies h = record {
  spelt = s ∷ [];
  split = record { size = 2 ∷ []; parts = refl; counts = one_byte 2 (lit< tt) };
  are_types = (s ∷ [], [], refl, one_byte s h, refl);
}

two_types : (s t : ℕ) (bodies : List ℕ) → s < 128 → t < 128 → IsHeader (3 ∷ s ∷ t ∷ bodies) (pos s ∷ pos t ∷ []) bodies
two_types s t bodies h k = record {
  spelt = s ∷ t ∷ [];
  split = record { size = 3 ∷ []; parts = refl; counts = one_byte 3 (lit< tt) };
  are_types = (s ∷ [], t ∷ [], refl, one_byte s h, (t ∷ [], [], refl, one_byte t k, refl));
}

abc : IsUtf8 (0x61 ∷ 0x62 ∷ 0x63 ∷ [])
unfolding lib.Utf8.encode
abc = (0x61 ∷ 0x62 ∷ 0x63 ∷ [], (refl, refl))

pub number_and_text : IsRecord (0x03 ∷ 0x01 ∷ 0x13 ∷ 0x2a ∷ 0x61 ∷ 0x62 ∷ 0x63 ∷ []) (int (pos 42) ∷ text (0x61 ∷ 0x62 ∷ 0x63 ∷ []) ∷ [])
number_and_text = record {
  types = pos 1 ∷ pos 19 ∷ [];
  bodies = 0x2a ∷ 0x61 ∷ 0x62 ∷ 0x63 ∷ [];
  header = two_types 1 19 (0x2a ∷ 0x61 ∷ 0x62 ∷ 0x63 ∷ []) (lit< tt) (lit< tt);
  holds = (0x2a ∷ [], 0x61 ∷ 0x62 ∷ 0x63 ∷ [], refl, is_int (omega (arith, ints)) (omega (arith, ints)) refl refl, (0x61 ∷ 0x62 ∷ 0x63 ∷ [], [], refl, is_text refl abc refl, refl));
}

pub zero_and_one : IsRecord (0x03 ∷ 0x08 ∷ 0x09 ∷ []) (int (pos 0) ∷ int (pos 1) ∷ [])
zero_and_one = record {
  types = pos 8 ∷ pos 9 ∷ [];
  bodies = [];
  header = two_types 8 9 [] (lit< tt) (lit< tt);
  holds = ([], [], refl, is_zero refl refl refl, ([], [], refl, is_one refl refl refl, refl));
}

pub no_values : IsRecord (0x01 ∷ []) []
no_values = record {
  types = [];
  bodies = [];
  header = record { spelt = []; split = record { size = 1 ∷ []; parts = refl; counts = one_byte 1 (lit< tt) }; are_types = refl };
  holds = refl;
}

-- ---- bytes that are no record

pub past_the_end : Breaks Bad (0x02 ∷ [])
past_the_end = inl (λ types bodies h. omega (arith, (split_fits (2 ∷ []) h.spelt bodies 1 2 (record { within = lit≤ tt; is = one_byte 2 (lit< tt) }) h.split).1))

pub one_byte_less : Breaks Bad (0x03 ∷ 0x01 ∷ 0x13 ∷ 0x2a ∷ 0x61 ∷ 0x62 ∷ [])
one_byte_less = inr (record {
  types = pos 1 ∷ pos 19 ∷ [];
  bodies = 0x2a ∷ 0x61 ∷ 0x62 ∷ [];
  header = two_types 1 19 (0x2a ∷ 0x61 ∷ 0x62 ∷ []) (lit< tt) (lit< tt);
  holds = inr (λ same. omega (arith, same));
})

pub type_ten : Breaks Bad (0x02 ∷ 0x0a ∷ [])
type_ten = inr (record { types = pos 10 ∷ []; bodies = []; header = one_type 10 [] (lit< tt); holds = inl (0, pos 10, lit< tt, refl, is_ten refl) })

pub type_seven : Breaks Float (0x02 ∷ 0x07 ∷ replicate 8 0)
type_seven = record { types = pos 7 ∷ []; bodies = replicate 8 0; header = one_type 7 (replicate 8 0) (lit< tt); holds = (0, lit< tt, refl) }

not_text : ¬ (IsUtf8 (0xff ∷ []))
unfolding is_utf8 chars lib.Utf8.encode
not_text u = let e : false ≡ true = is_utf8-from_IsUtf8 (0xff ∷ []) u in cc

pub not_utf8 : Breaks Text (0x02 ∷ 0x0f ∷ 0xff ∷ [])
not_utf8 = record {
  types = pos 15 ∷ [];
  bodies = 0xff ∷ [];
  header = one_type 15 (0xff ∷ []) (lit< tt);
  holds = record { before = []; after = []; front = []; text = 0xff ∷ []; more = []; serial_at = refl; text_at = refl; place = refl; not_utf8 = not_text };
}
