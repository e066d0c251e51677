-- Lemmas on the lines of a batch: the digits of their addresses, and how these are replaced.
use Rattle.std.proofs.Common.{◌≡◌, ℕ, zero, suc, ◌+◌, ◌-◌, ◌*◌, ◌/◌, ◌%◌, ◌^◌, ◌<◌, ◌≤◌, false, List, [], ◌∷◌, ◌++◌, length, drop, set, codes, refl, sym, ap, ◌∙◌, append_assoc, append-nil, arith, add-zero, zero-add, suc-add, add-mul}
use Rattle.std.proofs.Math.Nat.{suc-mul, pow-suc, mul_assoc}
use Rattle.std.proofs.lemmas.List.{take_at, drop_at, drop-set, length-append}
use Rattle.std.specs.Fmt.{digit_glyph, decimal}
use borrow.Rule.Slice.PartMut.{put_mid}
use Rattle.bm_base.specs.declared.zone.Zone.{Zone}
use Rattle.bm_base.specs.Text.{hex_text}
use Rattle.bm_base.proofs.TextLaws.{prepend_hex_digits, hex_sixteen}
use Rattle.buddy_blocks.specs.declared.block.Block.{Block}
use Rattle.buddy_blocks.specs.declared.block.BlockRow.{BlockRow}
use Rattle.buddy_blocks.specs.Rows.{row_from}
use Rattle.report_stages.specs.BlocksText.{AreAlignedBlocks, block_line, row_text}
use Rattle.report_stages.specs.Batches.{FillBatches, first_batch, eight_digits, batch_line_end, batch_lines_from, batch_line, batch_text}
use Rattle.report_stages.proofs.RowLaws.{lines, lines_append, lines_first, row_low, row_parts}
use Rattle.bm_base.specs.Zones.{zone_name}

-- the hexadecimal digits of a number in two parts, the lower of which has m digits
hex_parts : (m k q r : ℕ) (rest : List ℕ) → r < 16 ^ m
    → prepend_hex_digits (m + k) (q * 16 ^ m + r) rest ≡ prepend_hex_digits k q (prepend_hex_digits m r rest)
unfolding prepend_hex_digits
hex_parts zero k q r rest small = let is : q * 16 ^ 0 + r ≡ q = omega (arith, small) in rw (zero-add, is) refl
hex_parts (suc m) k q r rest small =
    let power : 16 ^ suc m ≡ 16 ^ m * 16 = pow-suc 16 m in
    let product : q * 16 ^ suc m ≡ q * 16 ^ m * 16 = rw (power, mul_assoc) refl in
    let higher : (q * 16 ^ suc m + r) / 16 ≡ q * 16 ^ m + r / 16 = omega (arith, product) in
    let last : (q * 16 ^ suc m + r) % 16 ≡ r % 16 = omega (arith, product) in
    rw (suc-add m k, prepend_hex_digits, higher, last)
    (hex_parts m k q (r / 16) (digit_glyph false (r % 16) ∷ rest) (omega (arith, small, power)))

hex_append : (k n : ℕ) (rest : List ℕ) → prepend_hex_digits k n rest ≡ prepend_hex_digits k n [] ++ rest
unfolding prepend_hex_digits
hex_append zero n rest = refl
hex_append (suc k) n rest =
    let g : ℕ = digit_glyph false (n % 16) in
    rw (hex_append k (n / 16) (g ∷ rest), hex_append k (n / 16) (g ∷ []), append_assoc) refl

pub hex_length : (k n : ℕ) (rest : List ℕ) → length (prepend_hex_digits k n rest) ≡ k + length rest
unfolding prepend_hex_digits
hex_length zero n rest = omega arith
hex_length (suc k) n rest = let h = hex_length k (n / 16) (digit_glyph false (n % 16) ∷ rest) in omega (arith, h)

-- a number below 2^32 is its own last eight digits
last_is : (q : ℕ) → q < 2 ^ 32 → eight_digits q ≡ prepend_hex_digits 8 q []
last_is q small =
    let here : 0 * 16 ^ 8 + q ≡ q = omega arith in
    let parts : prepend_hex_digits 16 q [] ≡ prepend_hex_digits 8 0 (prepend_hex_digits 8 q []) =
    ap (λ y. prepend_hex_digits 16 y []) (sym here) ∙ hex_parts 8 8 0 q [] (omega (arith, small)) in
    let zeros : drop 10 (codes "0x" ++ prepend_hex_digits 8 0 (prepend_hex_digits 8 q []))
    ≡ prepend_hex_digits 8 q [] = unfold prepend_hex_digits in refl in
    ap (λ t. drop 10 t) (sym (hex_sixteen q (omega (arith, small))) ∙ ap (λ t. codes "0x" ++ t) parts) ∙ zeros

-- this and the next: writing one more digit, from the last to the first, and all eight digits
pub digit_step : (text : List ℕ) (i left : ℕ) → i < 8 → length text ≡ 8
    → prepend_hex_digits (8 - (i + 1)) (left / 16) (drop (8 - (i + 1)) (set text (7 - i) (digit_glyph false (left % 16))))
    ≡ prepend_hex_digits (8 - i) left (drop (8 - i) text)
unfolding prepend_hex_digits
digit_step text i left below long =
    let place : 8 - (i + 1) ≡ 7 - i = omega arith in
    let count : 8 - i ≡ suc (7 - i) = omega arith in
    let after : 7 - i + 1 ≡ 8 - i = omega arith in
    let inside : 7 - i < length text = omega arith in
    rw (place, drop-set text (7 - i) (digit_glyph false (left % 16)) inside, after, count) refl

pub digits_end : (text : List ℕ) (i left n : ℕ) → i ≡ 8 → n < 2 ^ 32
    → prepend_hex_digits (8 - i) left (drop (8 - i) text) ≡ prepend_hex_digits 8 n [] → text ≡ eight_digits n
digits_end text i left n end small digits =
    let none : prepend_hex_digits 0 left text ≡ text = unfold prepend_hex_digits in refl in
    sym none ∙ rw end at digits ∙ sym (last_is n small)

-- the digits of an address are its first eight and its last eight
address_is : (q r : ℕ) → q < 2 ^ 32 → r < 2 ^ 32 → hex_text (q * 2 ^ 32 + r) ≡ codes "0x" ++ (eight_digits q ++ eight_digits r)
address_is q r high low =
    sym (hex_sixteen (q * 2 ^ 32 + r) (omega (arith, high, low)))
    ∙ rw (hex_parts 8 8 q r [] (omega (arith, low)), hex_append 8 q (prepend_hex_digits 8 r []), last_is q high, last_is r low) refl

pub last_length : (n : ℕ) → n < 2 ^ 32 → length (eight_digits n) ≡ 8
last_length n small = rw (last_is n small) (hex_length 8 n [])

-- the text before the digits in the line of a block of the largest order
abbrev pub front_of : ℕ → Zone → List ℕ
front_of n z = (codes "node " ++ decimal n ++ codes " zone " ++ zone_name z ++ codes " order " ++ decimal 10 ++ codes " ") ++ codes "0x"

around : (a b c d e : List ℕ) → (a ++ (b ++ (c ++ d))) ++ e ≡ (a ++ b) ++ (c ++ (d ++ e))
around a b c d e = simp append_assoc

line_is : (q j n : ℕ) (z : Zone) → q < 2 ^ 32 → j < 1024
    → block_line 0 (record { order = 10; first = q * 2 ^ 20 + j * 1024; node = n; zone = z })
    ≡ batch_line (front_of n z) (eight_digits q) j
line_is q j n z high low =
    let r : ℕ = j * 2 ^ 22 in
    let before : List ℕ = codes "node " ++ decimal n ++ codes " zone " ++ zone_name z ++ codes " order " ++ decimal 10 ++ codes " " in
    let place : 4096 * (q * 2 ^ 20 + j * 1024) ≡ q * 2 ^ 32 + r = omega arith in
    ap (λ t. (before ++ t) ++ codes "\n") (ap hex_text place ∙ address_is q r high (omega (arith, low)))
    ∙ around before (codes "0x") (eight_digits q) (eight_digits r) (codes "\n")

-- the text of a batch is the lines of its blocks
pub batch_lines : (k j q n : ℕ) (z : Zone) → q < 2 ^ 32 → j + k ≤ 1024
    → batch_lines_from (front_of n z) (eight_digits q) j k ≡ lines (row_from 10 (q * 2 ^ 20 + j * 1024) n z k)
unfolding batch_lines_from row_from
batch_lines zero j q n z high few = refl
batch_lines (suc k) j q n z high few =
    let next : q * 2 ^ 20 + (j + 1) * 1024 ≡ q * 2 ^ 20 + j * 1024 + 2 ^ 10 = omega arith in
    let b : Block = record { order = 10; first = q * 2 ^ 20 + j * 1024; node = n; zone = z } in
    let rest = rw next at (batch_lines k (j + 1) q n z high (omega (arith, few))) in
    ap (λ t. t ++ batch_lines_from (front_of n z) (eight_digits q) (j + 1) k) (sym (line_is q j n z high (omega (arith, few))))
    ∙ ap (λ t. block_line 0 b ++ t) rest
    ∙ sym (lines_first b (row_from 10 (q * 2 ^ 20 + j * 1024 + 2 ^ 10) n z k))

pub batch_none : (j : ℕ) (front digits : List ℕ) → batch_lines_from front digits j 0 ≡ []
unfolding batch_lines_from
batch_none j front digits = refl

-- the lines of k + 1 blocks are those of k blocks and one more line
batch_more : (k j : ℕ) (front digits : List ℕ)
    → batch_lines_from front digits j (k + 1) ≡ batch_lines_from front digits j k ++ batch_line front digits (j + k)
unfolding batch_lines_from
batch_more zero j front digits = rw (add-zero, append-nil) refl
batch_more (suc k) j front digits =
    let more : suc k + 1 ≡ suc (k + 1) = omega arith in
    let there : j + 1 + k ≡ j + suc k = omega arith in
    rw (more, batch_more k (j + 1) front digits, there) (simp append_assoc)

pub batch_length : (k j : ℕ) (front digits : List ℕ) → length digits ≡ 8 → j + k ≤ 1024
    → length (batch_lines_from front digits j k) ≡ k * (length front + 17)
unfolding batch_lines_from
batch_length zero j front digits eight few = omega arith
batch_length (suc k) j front digits eight few =
    let low = last_length (j * 2 ^ 22) (omega (arith, few)) in
    let rest = batch_length k (j + 1) front digits eight (omega (arith, few)) in
    simp length-append (omega (arith, low, rest, suc-mul k (length front + 17), eight))

-- replacing the first eight digits in line i moves the boundary between new and old lines past it
pub batch_put : (front new old : List ℕ) (i line : ℕ) (xs : List ℕ) → i < 1024 → line ≡ length front + 17 → length new ≡ 8 → length old ≡ 8
    → xs ≡ batch_lines_from front new 0 i ++ batch_lines_from front old i (1024 - i)
    → put_mid ((i + 1) * line - 17) 8 xs new ≡ batch_lines_from front new 0 (i + 1) ++ batch_lines_from front old (i + 1) (1024 - (i + 1))
unfolding batch_lines_from
batch_put front new old i line xs below long eight eight_too is =
    let done : List ℕ = batch_lines_from front new 0 i in
    let rest : List ℕ = batch_line_end i ++ batch_lines_from front old (i + 1) (1024 - (i + 1)) in
    let count : 1024 - i ≡ suc (1024 - (i + 1)) = omega (arith, below) in
    let parts : xs ≡ (done ++ front) ++ (old ++ rest) = rw (is, count) (simp append_assoc) in
    let before = rw (← long) at (batch_length i 0 front new eight (omega (arith, below))) in
    let size : length (done ++ front) ≡ (i + 1) * line - 17 = omega (arith, length-append done front, before, add-mul i 1 line, long) in
    rw (parts, take_at (done ++ front) (old ++ rest) _ size, drop_at (done ++ front) (old ++ rest) _ size, drop_at old rest 8 eight_too)
    (rw (batch_more i 0 front new, zero-add) (simp append_assoc))

-- replacing the digits of line i, as the code does it
pub renumber_one_line : (front new old held : List ℕ) (i size : ℕ) (xs : List ℕ) → i < 1024
    → size ≡ length (batch_lines_from front old 0 1024)
    → length new ≡ 8 → length old ≡ 8 → held ≡ new → xs ≡ batch_lines_from front new 0 i ++ batch_lines_from front old i (1024 - i)
    → put_mid ((i + 1) * (size / 1024) - 9 - 8) ((i + 1) * (size / 1024) - 9 - ((i + 1) * (size / 1024) - 9 - 8)) xs held
    ≡ batch_lines_from front new 0 (i + 1) ++ batch_lines_from front old (i + 1) (1024 - (i + 1))
renumber_one_line front new old held i size xs below all eight eight_too same is =
    let sizes = batch_length 1024 0 front old eight_too (omega arith) in
    let line : size / 1024 ≡ length front + 17 = omega (arith, all, sizes) in
    let product : (i + 1) * (size / 1024) ≡ i * (size / 1024) + size / 1024 = (let h = suc-mul i (size / 1024) in omega (arith, h)) in
    let place : (i + 1) * (size / 1024) - 9 - 8 ≡ (i + 1) * (size / 1024) - 17 = omega arith in
    let width : (i + 1) * (size / 1024) - 9 - ((i + 1) * (size / 1024) - 9 - 8) ≡ 8 = omega (arith, product, line) in
    rw (width, place, same) (batch_put front new old i (size / 1024) xs below line eight eight_too is)

-- the length of a batch's text
pub batch_size : (front digits text : List ℕ) → length digits ≡ 8 → text ≡ batch_text front digits
    → (length text % 1024 ≡ 0) × (17408 ≤ length text)
batch_size front digits text eight is =
    let size = rw (← is) at (batch_length 1024 0 front digits eight (omega arith)) in (omega (arith, size), omega (arith, size))

-- the first batch of a row is the text of a batch
pub batch_of : (row : BlockRow) → FillBatches row
    → batch_text (front_of row.node row.zone) (eight_digits (row.first / 2 ^ 20)) ≡ first_batch row
batch_of row fill =
    let place : row.first / 2 ^ 20 * 2 ^ 20 + 0 * 1024 ≡ row.first = omega arith in
    rw fill.order (rw place at (batch_lines 1024 0 (row.first / 2 ^ 20) row.node row.zone (omega arith) (omega arith)))

pub batch_size_of : (row : BlockRow) (text : List ℕ) → FillBatches row → text ≡ first_batch row
    → (length text % 1024 ≡ 0) × (17408 ≤ length text)
batch_size_of row text fill is =
    batch_size (front_of row.node row.zone) _ text (last_length (row.first / 2 ^ 20) (omega arith)) (is ∙ sym (batch_of row fill))

-- the first 1,024 blocks of the row are aligned and below the limit
pub batch_placed : (row : BlockRow) → FillBatches row → 0 < row.count
    → AreAlignedBlocks (row_from row.order row.first row.node row.zone 1024)
batch_placed row fill some =
    rw fill.order (row_low 1024 row.first row.node row.zone (omega arith) (omega arith))

-- this and the next two: the rest of the row after its first batch, the first batch of that rest,
-- and the lines of both
pub rest_fill : (row : BlockRow) → FillBatches row → 0 < row.count
    → FillBatches (record row { first = row.first + 1048576; count = row.count - 1024 })
rest_fill row fill some = record { order = fill.order; first = omega arith; count = omega arith; end = omega arith }

pub rest_batch : (row : BlockRow) (old new : List ℕ) → FillBatches row → 0 < row.count → old ≡ first_batch row
    → ((front digits : List ℕ) → length digits ≡ 8 → old ≡ batch_text front digits
    → new ≡ batch_text front (eight_digits ((row.first + 1048576) / 1048576)))
    → new ≡ first_batch (record row { first = row.first + 1048576; count = row.count - 1024 })
rest_batch row old new fill some is put =
    put (front_of row.node row.zone) (eight_digits (row.first / 2 ^ 20)) (last_length (row.first / 2 ^ 20) (omega arith))
    (is ∙ sym (batch_of row fill))
    ∙ batch_of (record row { first = row.first + 1048576; count = row.count - 1024 }) (rest_fill row fill some)

pub batch_then : (row : BlockRow) → FillBatches row → 0 < row.count
    → row_text row ≡ first_batch row ++ row_text (record row { first = row.first + 1048576; count = row.count - 1024 })
batch_then row fill some =
    let count : row.count ≡ 1024 + (row.count - 1024) = omega arith in
    ap (λ k. lines (row_from row.order row.first row.node row.zone k)) count
    ∙ rw (fill.order, row_parts 1024 (row.count - 1024) 10 row.first row.node row.zone, lines_append) refl
