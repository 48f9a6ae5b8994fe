pub mod Subtotal
