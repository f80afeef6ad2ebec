-- Accessed and dirty flags, and the assists that set them, in records of version 2 (Intel SDM, vol.
-- 3, 4.8). 0x20 of an entry is A, 0x40 is D.
use Rattle.std.proofs.Common.{◌≡◌, [], ◌∷◌, ◌++◌, refl, Some, None}
use Rattle.pg_event.specs.declared.event.Event.TheVariants.{Write, Assist, MovCr3, Invlpg}
use Rattle.pg_event.specs.declared.event.Reason.TheVariants as reasons
use Rattle.pg_event.specs.Heads.{Head}
use Rattle.pg_event.specs.Values.{mem_at, control_at}
use Rattle.pg_event.specs.Witness.{failing, first_bad}
use Rattle.pg_event.proofs.RowsBase.{base, with_flags, two_processors, as_version_2, words, tables, used_tables, four, read, answered, faulted, assisted, assist_of_read, assist_of_write, supervisor_read, supervisor_write, user_read, user_write, user_fetch}

abbrev judged : Head
judged = as_version_2 base

upgraded_fresh_walk_checked : first_bad judged (tables 0x9007 ++ read (four 4) ∷ []) ≡ Some (4, reasons.Accessed)
upgraded_fresh_walk_checked = refl

version_2_read_with_accessed_bits : first_bad judged (used_tables 0x9027 ++ read (four 4) ∷ []) ≡ None
version_2_read_with_accessed_bits = refl

-- each entry of a walk has A
pml4e_without_a : first_bad judged (words 0x2007 0x3027 0x4027 0x9027 ++ read (four 4) ∷ []) ≡ Some (4, reasons.Accessed)
pml4e_without_a = refl

pdpte_without_a : first_bad judged (words 0x2027 0x3007 0x4027 0x9027 ++ read (four 4) ∷ []) ≡ Some (4, reasons.Accessed)
pdpte_without_a = refl

pde_without_a : first_bad judged (words 0x2027 0x3027 0x4007 0x9027 ++ read (four 4) ∷ []) ≡ Some (4, reasons.Accessed)
pde_without_a = refl

pte_without_a : first_bad judged (words 0x2027 0x3027 0x4027 0x9007 ++ read (four 4) ∷ []) ≡ Some (4, reasons.Accessed)
pte_without_a = refl

entries_without_a_in_version_1 : first_bad base (words 0x2007 0x3027 0x4007 0x9007 ++ read (four 4) ∷ []) ≡ None
entries_without_a_in_version_1 = refl

d_is_not_a : first_bad judged (words 0x2027 0x3027 0x4027 0x9047 ++ read (four 4) ∷ []) ≡ Some (4, reasons.Accessed)
d_is_not_a = refl

large_page_2mb_with_a : first_bad judged (words 0x2027 0x3027 0x6000a7 0 ++ answered user_read 0x605123 (4 ∷ 4 ∷ 4 ∷ []) ∷ []) ≡ None
large_page_2mb_with_a = refl

large_page_2mb_without_a : first_bad judged (words 0x2027 0x3027 0x600087 0 ++ answered user_read 0x605123 (4 ∷ 4 ∷ 4 ∷ []) ∷ []) ≡ Some (4, reasons.Accessed)
large_page_2mb_without_a = refl

large_page_1gb_with_a : first_bad judged (words 0x2027 0x400000a7 0 0 ++ answered user_read 0x40005123 (4 ∷ 4 ∷ []) ∷ []) ≡ None
large_page_1gb_with_a = refl

large_page_1gb_without_a : first_bad judged (words 0x2027 0x40000087 0 0 ++ answered user_read 0x40005123 (4 ∷ 4 ∷ []) ∷ []) ≡ Some (4, reasons.Accessed)
large_page_1gb_without_a = refl

-- A is that of the value as it was read
a_set_after_the_reading : first_bad judged (used_tables 0x9007 ++ Write 0 0x4028 0x9027 ∷ read (four 4) ∷ []) ≡ Some (5, reasons.Accessed)
a_set_after_the_reading = refl

a_set_before_the_reading : first_bad judged (used_tables 0x9007 ++ Write 0 0x4028 0x9027 ∷ read (4 ∷ 4 ∷ 4 ∷ 5 ∷ []) ∷ []) ≡ None
a_set_before_the_reading = refl

a_cleared_after_the_reading : first_bad judged (used_tables 0x9027 ++ Write 0 0x4028 0x9007 ∷ read (four 4) ∷ []) ≡ None
a_cleared_after_the_reading = refl

-- an absent or reserved word needs no A of its own, the tables above it do
-- refutes: A is asked of an absent word
fault_by_an_absent_pte : first_bad judged (used_tables 0 ++ faulted user_read 4 (four 4) ∷ []) ≡ None
fault_by_an_absent_pte = refl

-- refutes: A is asked of an absent word
fault_by_an_absent_pde : first_bad judged (words 0x2027 0x3027 0x4006 0x9027 ++ faulted user_read 4 (4 ∷ 4 ∷ 4 ∷ []) ∷ []) ≡ None
fault_by_an_absent_pde = refl

-- refutes: A is asked of an absent word
fault_by_an_absent_pml4e : first_bad judged (faulted user_read 4 (0 ∷ []) ∷ []) ≡ None
fault_by_an_absent_pml4e = refl

fault_by_an_absent_pte_under_a_pde_without_a : first_bad judged (words 0x2027 0x3027 0x4007 0 ++ faulted user_read 4 (four 4) ∷ []) ≡ Some (4, reasons.Accessed)
fault_by_an_absent_pte_under_a_pde_without_a = refl

fault_by_an_absent_pte_under_a_pml4e_without_a : first_bad judged (words 0x2007 0x3027 0x4027 0 ++ faulted user_read 4 (four 4) ∷ []) ≡ Some (4, reasons.Accessed)
fault_by_an_absent_pte_under_a_pml4e_without_a = refl

write_fault_by_an_absent_pte : first_bad judged (used_tables 0 ++ faulted user_write 6 (four 4) ∷ []) ≡ None
write_fault_by_an_absent_pte = refl

fault_by_a_reserved_pte : first_bad judged (used_tables 0x10000009007 ++ faulted user_read 0xd (four 4) ∷ []) ≡ None
fault_by_a_reserved_pte = refl

fault_by_a_reserved_pte_under_a_pdpte_without_a : first_bad judged (words 0x2027 0x3007 0x4027 0x10000009007 ++ faulted user_read 0xd (four 4) ∷ []) ≡ Some (4, reasons.Accessed)
fault_by_a_reserved_pte_under_a_pdpte_without_a = refl

-- a fault by rights uses its leaf, so it needs A of it, and never D
-- refutes: D is asked of denied faults
denied_write_of_leaf_with_a : first_bad judged (used_tables 0x9025 ++ faulted user_write 7 (four 4) ∷ []) ≡ None
denied_write_of_leaf_with_a = refl

-- refutes: the bits of a denied leaf are ignored
denied_write_of_leaf_without_a : first_bad judged (used_tables 0x9005 ++ faulted user_write 7 (four 4) ∷ []) ≡ Some (4, reasons.Accessed)
denied_write_of_leaf_without_a = refl

-- refutes: the bits of a denied leaf are ignored
denied_write_of_leaf_with_d_alone : first_bad judged (used_tables 0x9045 ++ faulted user_write 7 (four 4) ∷ []) ≡ Some (4, reasons.Accessed)
denied_write_of_leaf_with_d_alone = refl

denied_write_under_a_pde_without_a : first_bad judged (words 0x2027 0x3027 0x4007 0x9025 ++ faulted user_write 7 (four 4) ∷ []) ≡ Some (4, reasons.Accessed)
denied_write_under_a_pde_without_a = refl

denied_read_of_supervisor_leaf_with_a : first_bad judged (used_tables 0x9023 ++ faulted user_read 5 (four 4) ∷ []) ≡ None
denied_read_of_supervisor_leaf_with_a = refl

-- refutes: the bits of a denied leaf are ignored
denied_read_of_supervisor_leaf_without_a : first_bad judged (used_tables 0x9003 ++ faulted user_read 5 (four 4) ∷ []) ≡ Some (4, reasons.Accessed)
denied_read_of_supervisor_leaf_without_a = refl

-- a write that was done needs D of its leaf
version_2_write_of_clean_leaf : first_bad judged (used_tables 0x9027 ++ answered user_write 0x9123 (four 4) ∷ []) ≡ Some (4, reasons.Dirty)
version_2_write_of_clean_leaf = refl

write_of_dirty_leaf : first_bad judged (used_tables 0x9067 ++ answered user_write 0x9123 (four 4) ∷ []) ≡ None
write_of_dirty_leaf = refl

write_of_clean_leaf_in_version_1 : first_bad base (used_tables 0x9027 ++ answered user_write 0x9123 (four 4) ∷ []) ≡ None
write_of_clean_leaf_in_version_1 = refl

supervisor_write_of_clean_leaf : first_bad judged (used_tables 0x9027 ++ answered supervisor_write 0x9123 (four 4) ∷ []) ≡ Some (4, reasons.Dirty)
supervisor_write_of_clean_leaf = refl

-- refutes: D is asked of reads
read_of_clean_leaf : first_bad judged (used_tables 0x9027 ++ answered user_read 0x9123 (four 4) ∷ []) ≡ None
read_of_clean_leaf = refl

-- refutes: D is asked of reads
supervisor_read_of_clean_leaf : first_bad judged (used_tables 0x9023 ++ answered supervisor_read 0x9123 (four 4) ∷ []) ≡ None
supervisor_read_of_clean_leaf = refl

fetch_of_clean_leaf : first_bad judged (used_tables 0x9027 ++ answered user_fetch 0x9123 (four 4) ∷ []) ≡ None
fetch_of_clean_leaf = refl

write_of_clean_2mb_page : first_bad judged (words 0x2027 0x3027 0x6000a7 0 ++ answered user_write 0x605123 (4 ∷ 4 ∷ 4 ∷ []) ∷ []) ≡ Some (4, reasons.Dirty)
write_of_clean_2mb_page = refl

write_of_dirty_2mb_page : first_bad judged (words 0x2027 0x3027 0x6000e7 0 ++ answered user_write 0x605123 (4 ∷ 4 ∷ 4 ∷ []) ∷ []) ≡ None
write_of_dirty_2mb_page = refl

write_of_dirty_1gb_page : first_bad judged (words 0x2027 0x400000e7 0 0 ++ answered user_write 0x40005123 (4 ∷ 4 ∷ []) ∷ []) ≡ None
write_of_dirty_1gb_page = refl

-- reasons go in number order
-- refutes: A is looked at before the code
code_goes_before_accessed : first_bad judged (used_tables 0x9005 ++ faulted user_write 5 (four 4) ∷ []) ≡ Some (4, reasons.Code)
code_goes_before_accessed = refl

-- refutes: A is looked at before the code
code_of_an_absent_fault_goes_before_accessed : first_bad judged (words 0x2027 0x3027 0x4007 0 ++ faulted user_read 6 (four 4) ∷ []) ≡ Some (4, reasons.Code)
code_of_an_absent_fault_goes_before_accessed = refl

answer_goes_before_accessed : first_bad judged (tables 0x9007 ++ answered user_read 0x9124 (four 4) ∷ []) ≡ Some (4, reasons.Answer)
answer_goes_before_accessed = refl

rights_go_before_accessed : first_bad judged (tables 0x9003 ++ read (four 4) ∷ []) ≡ Some (4, reasons.Rights)
rights_go_before_accessed = refl

read_before_the_event_goes_before_accessed : first_bad judged (tables 0 ++ Write 0 0x4030 0 ∷ faulted user_read 4 (four 4) ∷ []) ≡ Some (5, reasons.NotAtEvent)
read_before_the_event_goes_before_accessed = refl

foreign_pcid_goes_before_accessed : first_bad judged (tables 0x9007 ++ MovCr3 0 0x8000000000001002 ∷ read (four 4) ∷ []) ≡ Some (5, reasons.ForeignPcid)
foreign_pcid_goes_before_accessed = refl

dropped_translation_goes_before_accessed : first_bad judged (tables 0x9007 ++ Invlpg 0 0x5000 ∷ read (four 4) ∷ []) ≡ Some (5, reasons.TranslationDropped)
dropped_translation_goes_before_accessed = refl

entry_goes_before_accessed : first_bad judged (words 0x2007 0x3007 0x4007 0 ++ read (four 4) ∷ []) ≡ Some (4, reasons.Entry)
entry_goes_before_accessed = refl

accessed_goes_before_dirty : first_bad judged (used_tables 0x9007 ++ answered user_write 0x9123 (four 4) ∷ []) ≡ Some (4, reasons.Accessed)
accessed_goes_before_dirty = refl

answer_goes_before_dirty : first_bad judged (used_tables 0x9027 ++ answered user_write 0x9124 (four 4) ∷ []) ≡ Some (4, reasons.Answer)
answer_goes_before_dirty = refl

-- what an assist does to memory: from the next moment on, and to its own word alone
-- refutes: an assist counts from its own moment
word_at_the_moment_of_its_assist : mem_at (used_tables 0x9007 ++ assisted assist_of_write 0x4028 (four 4) ∷ []) 4 0x4028 ≡ 0x9007
word_at_the_moment_of_its_assist = refl

-- refutes: a dirty assist sets D alone
word_after_a_dirty_assist : mem_at (used_tables 0x9007 ++ assisted assist_of_write 0x4028 (four 4) ∷ []) 5 0x4028 ≡ 0x9067
word_after_a_dirty_assist = refl

word_after_an_assist : mem_at (used_tables 0x9007 ++ assisted assist_of_read 0x4028 (four 4) ∷ []) 5 0x4028 ≡ 0x9027
word_after_an_assist = refl

word_after_an_assist_of_a_write_that_is_not_dirty : mem_at (used_tables 0x9007 ++ assisted user_write 0x4028 (four 4) ∷ []) 5 0x4028 ≡ 0x9027
word_after_an_assist_of_a_write_that_is_not_dirty = refl

word_with_both_bits_after_a_dirty_assist : mem_at (used_tables 0x9067 ++ assisted assist_of_write 0x4028 (four 4) ∷ []) 5 0x4028 ≡ 0x9067
word_with_both_bits_after_a_dirty_assist = refl

d_stays_after_an_assist : mem_at (used_tables 0x9047 ++ assisted assist_of_read 0x4028 (four 4) ∷ []) 5 0x4028 ≡ 0x9067
d_stays_after_an_assist = refl

other_word_after_an_assist : mem_at (used_tables 0x9007 ++ assisted assist_of_write 0x4028 (four 4) ∷ []) 5 0x3000 ≡ 0x4027
other_word_after_an_assist = refl

word_after_an_assist_of_other_processor : mem_at (used_tables 0x9007 ++ Assist 1 assist_of_read 0x5123 0x4028 (four 4) ∷ []) 5 0x4028 ≡ 0x9027
word_after_an_assist_of_other_processor = refl

word_that_was_never_written_after_an_assist : mem_at (assisted assist_of_write 0x4028 (0 ∷ []) ∷ []) 1 0x4028 ≡ 0x60
word_that_was_never_written_after_an_assist = refl

word_after_an_assist_and_a_write : mem_at (used_tables 0x9007 ++ assisted assist_of_write 0x4028 (four 4) ∷ Write 0 0x4028 0xa007 ∷ []) 6 0x4028 ≡ 0xa007
word_after_an_assist_and_a_write = refl

control_after_an_assist : control_at judged (used_tables 0x9007 ++ assisted assist_of_write 0x4028 (four 4) ∷ []) 0 5 ≡ control_at judged [] 0 0
control_after_an_assist = refl

-- the bits that an assist sets are those that an access needs afterwards
version_2_write_after_dirty_assist : first_bad judged (used_tables 0x9027 ++ assisted assist_of_write 0x4028 (four 4) ∷ answered user_write 0x9123 (four 5) ∷ []) ≡ None
version_2_write_after_dirty_assist = refl

-- refutes: a dirty assist sets D alone
write_after_dirty_assist_of_leaf_without_a : first_bad judged (used_tables 0x9007 ++ assisted assist_of_write 0x4028 (four 4) ∷ answered user_write 0x9123 (four 5) ∷ []) ≡ None
write_after_dirty_assist_of_leaf_without_a = refl

-- refutes: an assist counts from its own moment
write_by_the_word_at_the_moment_of_its_assist : first_bad judged (used_tables 0x9027 ++ assisted assist_of_write 0x4028 (four 4) ∷ answered user_write 0x9123 (four 4) ∷ []) ≡ Some (5, reasons.Dirty)
write_by_the_word_at_the_moment_of_its_assist = refl

-- refutes: an assist counts from its own moment
read_by_the_word_at_the_moment_of_its_assist : first_bad judged (used_tables 0x9007 ++ assisted assist_of_read 0x4028 (four 4) ∷ read (four 4) ∷ []) ≡ Some (5, reasons.Accessed)
read_by_the_word_at_the_moment_of_its_assist = refl

read_after_assist : first_bad judged (used_tables 0x9007 ++ assisted assist_of_read 0x4028 (four 4) ∷ read (four 5) ∷ []) ≡ None
read_after_assist = refl

write_after_assist_that_is_not_dirty : first_bad judged (used_tables 0x9007 ++ assisted user_write 0x4028 (four 4) ∷ answered user_write 0x9123 (four 5) ∷ []) ≡ Some (5, reasons.Dirty)
write_after_assist_that_is_not_dirty = refl

-- refutes: an assist that is not witnessed sets nothing
write_after_an_assist_that_is_not_witnessed : failing judged (used_tables 0x9007 ++ Write 0 0x6000 0 ∷ assisted assist_of_write 0x4028 (four 4) ∷ answered user_write 0x9123 (four 6) ∷ []) 6 ≡ None
write_after_an_assist_that_is_not_witnessed = refl

assist_that_is_not_witnessed : failing judged (used_tables 0x9007 ++ Write 0 0x6000 0 ∷ assisted assist_of_write 0x4028 (four 4) ∷ answered user_write 0x9123 (four 6) ∷ []) 5 ≡ Some reasons.Assist
assist_that_is_not_witnessed = refl

-- refutes: an assist that is not witnessed sets nothing
word_of_an_assist_that_names_another : mem_at (used_tables 0x9007 ++ assisted assist_of_write 0x4030 (four 4) ∷ []) 5 0x4030 ≡ 0x60
word_of_an_assist_that_names_another = refl

-- an assist at each level
-- refutes: A is asked of the word of an assist
assist_of_pml4e : first_bad judged (tables 0x9007 ++ assisted assist_of_read 0x1000 (4 ∷ []) ∷ []) ≡ None
assist_of_pml4e = refl

-- refutes: A is asked of the word of an assist
assist_of_pdpte : first_bad judged (words 0x2027 0x3007 0x4007 0x9007 ++ assisted assist_of_read 0x2000 (4 ∷ 4 ∷ []) ∷ []) ≡ None
assist_of_pdpte = refl

-- refutes: A is asked of the word of an assist
assist_of_pde : first_bad judged (words 0x2027 0x3027 0x4007 0x9007 ++ assisted assist_of_read 0x3000 (4 ∷ 4 ∷ 4 ∷ []) ∷ []) ≡ None
assist_of_pde = refl

-- refutes: A is asked of the word of an assist
assist_of_pte : first_bad judged (used_tables 0x9007 ++ assisted assist_of_read 0x4028 (four 4) ∷ []) ≡ None
assist_of_pte = refl

assist_of_pte_with_a : first_bad judged (used_tables 0x9027 ++ assisted assist_of_read 0x4028 (four 4) ∷ []) ≡ None
assist_of_pte_with_a = refl

assist_of_2mb_page : first_bad judged (words 0x2027 0x3027 0x600087 0 ++ assisted assist_of_write 0x3000 (4 ∷ 4 ∷ 4 ∷ []) ∷ []) ≡ None
assist_of_2mb_page = refl

assist_of_1gb_page : first_bad judged (words 0x2027 0x40000087 0 0 ++ assisted assist_of_write 0x2000 (4 ∷ 4 ∷ []) ∷ []) ≡ None
assist_of_1gb_page = refl

assist_under_a_pml4e_without_a : first_bad judged (words 0x2007 0x3027 0x4027 0x9007 ++ assisted assist_of_read 0x4028 (four 4) ∷ []) ≡ Some (4, reasons.Accessed)
assist_under_a_pml4e_without_a = refl

assist_under_a_pde_without_a : first_bad judged (words 0x2027 0x3027 0x4007 0x9007 ++ assisted assist_of_read 0x4028 (four 4) ∷ []) ≡ Some (4, reasons.Accessed)
assist_under_a_pde_without_a = refl

assist_of_pde_under_a_pdpte_without_a : first_bad judged (words 0x2027 0x3007 0x4007 0x9007 ++ assisted assist_of_read 0x3000 (4 ∷ 4 ∷ 4 ∷ []) ∷ []) ≡ Some (4, reasons.Accessed)
assist_of_pde_under_a_pdpte_without_a = refl

assist_of_absent_pte : first_bad judged (used_tables 0x9006 ++ assisted assist_of_read 0x4028 (four 4) ∷ []) ≡ Some (4, reasons.Entry)
assist_of_absent_pte = refl

assist_of_reserved_pte : first_bad judged (used_tables 0x10000009007 ++ assisted assist_of_read 0x4028 (four 4) ∷ []) ≡ Some (4, reasons.Entry)
assist_of_reserved_pte = refl

assist_after_a_leaf : first_bad judged (words 0x2027 0x3027 0x6000a7 0x9007 ++ assisted assist_of_read 0x4028 (four 4) ∷ []) ≡ Some (4, reasons.Entry)
assist_after_a_leaf = refl

-- an assist names the word that it read last, at its own event
-- refutes: the addresses of words are not compared
version_2_assist_of_another_word : first_bad judged (used_tables 0x9027 ++ assisted assist_of_write 0x4030 (four 4) ∷ []) ≡ Some (4, reasons.Assist)
version_2_assist_of_another_word = refl

-- refutes: the addresses of words are not compared
assist_of_the_word_above : first_bad judged (used_tables 0x9007 ++ assisted assist_of_read 0x3000 (four 4) ∷ []) ≡ Some (4, reasons.Assist)
assist_of_the_word_above = refl

-- refutes: an assist may be witnessed at an earlier moment
assist_at_an_earlier_moment : first_bad judged (used_tables 0x9007 ++ Write 0 0x6000 0 ∷ assisted assist_of_read 0x4028 (four 4) ∷ []) ≡ Some (5, reasons.Assist)
assist_at_an_earlier_moment = refl

assist_with_tables_of_an_earlier_moment : first_bad judged (used_tables 0x9007 ++ Write 0 0x6000 0 ∷ assisted assist_of_read 0x4028 (4 ∷ 4 ∷ 4 ∷ 5 ∷ []) ∷ []) ≡ None
assist_with_tables_of_an_earlier_moment = refl

-- a dirty assist is of a leaf, and of a write that the rights of the walk allow
-- refutes: a dirty assist of a table is taken
dirty_assist_of_pde : first_bad judged (used_tables 0x9027 ++ assisted assist_of_write 0x3000 (4 ∷ 4 ∷ 4 ∷ []) ∷ []) ≡ Some (4, reasons.Assist)
dirty_assist_of_pde = refl

-- refutes: a dirty assist of a table is taken
dirty_assist_of_pml4e : first_bad judged (used_tables 0x9027 ++ assisted assist_of_write 0x1000 (4 ∷ []) ∷ []) ≡ Some (4, reasons.Assist)
dirty_assist_of_pml4e = refl

assist_of_pde_for_a_write : first_bad judged (used_tables 0x9027 ++ assisted user_write 0x3000 (4 ∷ 4 ∷ 4 ∷ []) ∷ []) ≡ None
assist_of_pde_for_a_write = refl

dirty_assist_of_read_only_pte : first_bad judged (used_tables 0x9025 ++ assisted assist_of_write 0x4028 (four 4) ∷ []) ≡ Some (4, reasons.Assist)
dirty_assist_of_read_only_pte = refl

dirty_assist_under_read_only_pml4e : first_bad judged (words 0x2025 0x3027 0x4027 0x9027 ++ assisted assist_of_write 0x4028 (four 4) ∷ []) ≡ Some (4, reasons.Assist)
dirty_assist_under_read_only_pml4e = refl

assist_of_read_only_pte_for_a_write : first_bad judged (used_tables 0x9005 ++ assisted user_write 0x4028 (four 4) ∷ []) ≡ None
assist_of_read_only_pte_for_a_write = refl

dirty_assist_of_supervisor_pte_for_a_user : first_bad judged (used_tables 0x9023 ++ assisted assist_of_write 0x4028 (four 4) ∷ []) ≡ Some (4, reasons.Assist)
dirty_assist_of_supervisor_pte_for_a_user = refl

dirty_assist_of_supervisor_pte_for_a_supervisor : first_bad judged (used_tables 0x9023 ++ assisted 0x11 0x4028 (four 4) ∷ []) ≡ None
dirty_assist_of_supervisor_pte_for_a_supervisor = refl

dirty_assist_of_read_only_pte_for_a_supervisor : first_bad judged (used_tables 0x9021 ++ assisted 0x11 0x4028 (four 4) ∷ []) ≡ Some (4, reasons.Assist)
dirty_assist_of_read_only_pte_for_a_supervisor = refl

dirty_assist_of_read_only_pte_with_wp_off : first_bad (as_version_2 (with_flags 2)) (used_tables 0x9021 ++ assisted 0x11 0x4028 (four 4) ∷ []) ≡ None
dirty_assist_of_read_only_pte_with_wp_off = refl

-- an assist is a walk of its own context, in its order, by structure entries that survive
assist_after_its_event : first_bad judged (used_tables 0x9007 ++ assisted assist_of_read 0x4028 (4 ∷ 4 ∷ 4 ∷ 5 ∷ []) ∷ []) ≡ Some (4, reasons.Order)
assist_after_its_event = refl

assist_across_a_change_of_pcid : first_bad judged (used_tables 0x9007 ++ MovCr3 0 0x8000000000001002 ∷ assisted assist_of_read 0x4028 (4 ∷ 4 ∷ 4 ∷ 5 ∷ []) ∷ []) ≡ Some (5, reasons.Context)
assist_across_a_change_of_pcid = refl

assist_by_a_dropped_structure : first_bad judged (used_tables 0x9007 ++ Invlpg 0 0x5000 ∷ assisted assist_of_read 0x4028 (4 ∷ 4 ∷ 4 ∷ 5 ∷ []) ∷ []) ≡ Some (5, reasons.StructureDropped)
assist_by_a_dropped_structure = refl

assist_walked_anew : first_bad judged (used_tables 0x9007 ++ Invlpg 0 0x5000 ∷ assisted assist_of_read 0x4028 (four 5) ∷ []) ≡ None
assist_walked_anew = refl

assist_by_a_structure_that_other_processor_dropped : first_bad (as_version_2 two_processors) (used_tables 0x9007 ++ Invlpg 1 0x5000 ∷ assisted assist_of_read 0x4028 (4 ∷ 4 ∷ 4 ∷ 5 ∷ []) ∷ []) ≡ None
assist_by_a_structure_that_other_processor_dropped = refl

entry_of_an_assist_goes_before_accessed : first_bad judged (words 0x2007 0x3027 0x4027 0 ++ assisted assist_of_read 0x4028 (four 4) ∷ []) ≡ Some (4, reasons.Entry)
entry_of_an_assist_goes_before_accessed = refl

accessed_of_an_assist_goes_before_its_word : first_bad judged (words 0x2007 0x3027 0x4027 0x9007 ++ assisted assist_of_read 0x4030 (four 4) ∷ []) ≡ Some (4, reasons.Accessed)
accessed_of_an_assist_goes_before_its_word = refl

dropped_structure_of_an_assist_goes_before_accessed : first_bad judged (tables 0x9007 ++ Invlpg 0 0x5000 ∷ assisted assist_of_read 0x4028 (4 ∷ 4 ∷ 4 ∷ 5 ∷ []) ∷ []) ≡ Some (5, reasons.StructureDropped)
dropped_structure_of_an_assist_goes_before_accessed = refl

-- an assist drops nothing
-- refutes: an assist drops something
translation_used_after_an_assist_of_its_page : first_bad judged (used_tables 0x9027 ++ assisted assist_of_write 0x4028 (four 4) ∷ read (four 4) ∷ []) ≡ None
translation_used_after_an_assist_of_its_page = refl

-- refutes: an assist drops something
structure_used_after_an_assist : first_bad judged (used_tables 0x9027 ++ assisted assist_of_read 0x4028 (four 4) ∷ read (4 ∷ 4 ∷ 4 ∷ 5 ∷ []) ∷ []) ≡ None
structure_used_after_an_assist = refl

-- refutes: an assist drops something
structure_used_after_an_assist_of_it : first_bad judged (used_tables 0x9027 ++ assisted assist_of_read 0x1000 (4 ∷ []) ∷ read (4 ∷ 5 ∷ 5 ∷ 5 ∷ []) ∷ []) ≡ None
structure_used_after_an_assist_of_it = refl

-- whole runs
script_version_2_its_record_checked : first_bad judged (tables 0x9007 ++ assisted assist_of_read 0x1000 (4 ∷ []) ∷ assisted assist_of_read 0x2000 (5 ∷ 5 ∷ []) ∷ assisted assist_of_read 0x3000 (5 ∷ 6 ∷ 6 ∷ []) ∷ assisted assist_of_read 0x4028 (5 ∷ 6 ∷ 7 ∷ 7 ∷ []) ∷ read (5 ∷ 6 ∷ 7 ∷ 8 ∷ []) ∷ Write 0 0x4028 0 ∷ read (5 ∷ 6 ∷ 7 ∷ 8 ∷ []) ∷ Invlpg 0 0x5000 ∷ faulted user_read 4 (four 12) ∷ []) ≡ None
script_version_2_its_record_checked = refl
